-- The best candidate so far, with one more piece looked at.
use Rattle.std.proofs.Common.{◌≡◌, refl, sym, ap, ◌∙◌, subst, ℕ, zero, suc, ◌+◌, ◌*◌, ◌-◌, ◌^◌, ◌<◌, ◌≤◌, ◌⊎◌, inl, inr, ⊎_elim, Bool, true, false, cond, List, [], ◌∷◌, length, get_or, Option, Some, None, arith, slice_get, All}
use Rattle.std.proofs.lemmas.Bool.{cases_lt}
use Rattle.std.proofs.lemmas.Option.{slice_get_within}
use Rattle.std.proofs.lemmas.List.Sums.{count_by-le-length}
use Rattle.std.specs.Prelude.{count_by, nat_eq, nat_le, ◌||◌, MatchOption}
use Rattle.std.proofs.lemmas.Bool.Decides.{nat_tests}
use Rattle.tree_pieces.specs.declared.edge.Edge.{Edge}
use Rattle.tree_pieces.specs.declared.piece.Piece.{Piece}
use Rattle.tree_pieces.specs.Division.{right_parts, left_parts, LiesAlong}
use Rattle.tree_pieces.specs.Plane.{IsEdge}
use Rattle.tree_pieces.specs.Pieces.{IsPiece}
use Rattle.tree_pieces.specs.Tree.{is_split, cost, IsCandidate, HasNoChoice}
use Rattle.tree_pieces.proofs.Lists.{All-at}
use Rattle.tree_pieces.proofs.Straight.{OnOneLine}
use Rattle.tree_pieces.proofs.StraightLists.{same_cost, candidate_too}
use Rattle.tree_choice.specs.Choices.{IsChoice, HasEarlier}
use Rattle.tree_pieces.proofs.Stops.{rights, lefts, splits, rights_near, lefts_near}
use Rattle.tree_choice.specs.declared.choice.Choice.{Choice}
use Rattle.tree_choice.specs.declared.counts.Counts.{Counts}
use Rattle.tree_choice.specs.Counts.{AreCounts, cost_by}
use Rattle.tree_choice.specs.SoFar.{IsBestBefore, SoFar, IsBound, limit_by, taken_in}

-- what stands at a place of a list
pub stands_at : {X : Type 0} (xs : List X) (n : ℕ) (d : X) → n < length xs → slice_get xs n ≡ Some (get_or xs n d)
stands_at [] n d h = absurd (omega arith)
stands_at (x ∷ xs) zero d h = refl
stands_at (x ∷ xs) (suc n) d h = stands_at xs n d (omega arith)

-- the cost is small
pub cost_small : (lines : List Edge) (p : Piece) (ps : List Piece) → cost lines p ps ≤ 9 * length ps
cost_small lines p ps =
    let a = rights_near lines p ps in
    let b = lefts_near lines p ps in
    let c = count_by-le-length (is_split lines p) ps in
    by_numbers (rights lines p ps) (lefts lines p ps) (splits lines p ps) (length ps) a b c
  where
    by_numbers : (r l s n : ℕ) → r ≤ l + n → l ≤ r + n → s ≤ n → 8 * s + ((r - l) + (l - r)) ≤ 9 * n
    by_numbers r l s n a b c = omega arith

-- the cost by the counts is the cost
pub cost_by_counts : (lines : List Edge) (p : Piece) (ps : List Piece) (c : Counts) → AreCounts lines p ps c → cost_by c ≡ cost lines p ps
cost_by_counts lines p ps c k = by_numbers _ _ _ _ _ _ k.splits k.right k.left
  where
    by_numbers : (s r l S R L : ℕ) → s ≡ S → r ≡ R → l ≡ L → 8 * s + ((r - l) + (l - r)) ≡ 8 * S + ((R - L) + (L - R))
    by_numbers s r l S R L e f g = omega arith

kept : (l a b : ℕ) → (nat_eq l 0 || nat_le a b) ≡ true → (l ≡ 0) ⊎ (a ≤ b)
kept l a b e = grind (arith, nat_tests)

better : (l a b : ℕ) → (nat_eq l 0 || nat_le a b) ≡ false → (0 < l) × (b < a)
better l a b e = grind (arith, nat_tests)

module _ (lines : List Edge) (ps : List Piece) (used : List Bool) (bound n : ℕ) (p : Piece) (at : slice_get ps n ≡ Some p) where
  limit_is : (c : Choice) → (b : IsBestBefore lines ps used n c) → limit_by bound (Some c) ≡ cost lines b.piece ps
  limit_is c b = by_numbers _ _ _ _ _ _ b.splits b.right b.left
    where
      by_numbers : (s r l S R L : ℕ) → s ≡ S → r ≡ R → l ≡ L → 8 * s + ((r - l) + (l - r)) ≡ 8 * S + ((R - L) + (L - R))
      by_numbers s r l S R L e f g = omega arith

  -- a place before the next one is an earlier one, or holds p
  earlier_or_here : (j : ℕ) (q : Piece) → j < n + 1 → slice_get ps j ≡ Some q → (j < n) ⊎ (p ≡ q)
  earlier_or_here j q h e = ⊎_elim (λ l. inl l) (λ l. inr (same (omega arith))) (cases_lt j n)
    where
      same : j ≡ n → p ≡ q
      same s = let f = ap (slice_get ps) s in let g : Some p ≡ Some q = sym at ∙ sym f ∙ e in cc

  -- p costs too much, or is no candidate: the best stays
  pub stays : (best : Option Choice) → SoFar lines ps used bound n best → (IsCandidate lines ps used p → limit_by bound best ≤ cost lines p ps) → SoFar lines ps used bound (n + 1) best
  stays None before dear =
      λ j q h e k. ⊎_elim (λ l. before j q l e k)
      (λ t. subst (λ (x : Piece). bound ≤ cost lines x ps) t (dear (subst (IsCandidate lines ps used) (sym t) k)))
      (earlier_or_here j q h e)
  stays (Some c) b dear = record {
    piece = b.piece;
    stands = b.stands;
    candidate = b.candidate;
    least = λ j q h e k. ⊎_elim (λ l. b.least j q l e k)
        (λ s. let d = dear (subst (IsCandidate lines ps used) (sym s) k) in let m = limit_is c b in let f =
        ap (λ (x : Piece). cost lines x ps) s in omega arith) (earlier_or_here j q h e);
    first = b.first;
    splits = b.splits;
    right = b.right;
    left = b.left;
  }

  -- p costs less: it becomes the best
  pub takes : (best : Option Choice) (c : Choice) → SoFar lines ps used bound n best → IsCandidate lines ps used p
      → cost lines p ps < limit_by bound best → c.at ≡ n → c.splits ≡ count_by (is_split lines p) ps → c.right
      ≡ length (right_parts lines p ps) → c.left ≡ length (left_parts lines p ps) → IsBestBefore lines ps used (n + 1) c
  takes best c before can cheap here s r l = record {
    piece = p;
    stands = ap (slice_get ps) here ∙ at;
    candidate = can;
    least = λ j q h e k. ⊎_elim (λ m. let d = dearer best before cheap j q m e k in omega arith) (λ t. let f = ap (λ (x : Piece). cost lines x ps) t in omega arith) (earlier_or_here j q h e);
    first = λ j q h e k. dearer best before cheap j q (omega arith) e k;
    splits = s;
    right = r;
    left = l;
  }
    where
      dearer : (best : Option Choice) → SoFar lines ps used bound n best → cost lines p ps < limit_by bound best
          → (j : ℕ) (q : Piece) → j < n → slice_get ps j ≡ Some q → IsCandidate lines ps used q
          → cost lines p ps < cost lines q ps
      dearer None none m j q h e k = let a = none j q h e k in let b : cost lines p ps < bound = m in omega arith
      dearer (Some b) was m j q h e k = let a = was.least j q h e k in let f = limit_is b was in omega arith

  -- the test on a counted piece decides
  by_test : (limit : ℕ) (best : Option Choice) (c : Counts) → limit ≡ limit_by bound best
      → SoFar lines ps used bound n best → slice_get used p.line ≡ Some false → AreCounts lines p ps c → (b : Bool)
      → (b ≡ true → (c.left ≡ 0) ⊎ (limit ≤ cost_by c))
      → (b ≡ false → (0 < c.left) × (cost_by c < limit))
      → SoFar lines ps used bound (n + 1) (cond b best (Some
      (record { at = n; splits = c.splits; right = c.right; left = c.left })))
  by_test limit best c is so free k true f g =
      ⊎_elim
      (λ z. stays best so (λ can. let l = k.left in let s = can.1 in absurd (omega arith)))
      (λ d. stays best so (λ can. let m = cost_by_counts lines p ps c k in omega arith))
      (f refl)
  by_test limit best c is so free k false f g =
      let h = g refl in
      let positive = h.0 in
      let cheap = h.1 in
      let l = k.left in
      let m = cost_by_counts lines p ps c k in
      takes best _ so (free, omega arith) (omega arith) refl k.splits k.right k.left

  -- a counted piece of an unused line is taken in
  pub taken : (limit : ℕ) (best : Option Choice) (o : Option Counts) → limit ≡ limit_by bound best
      → SoFar lines ps used bound n best → slice_get used p.line ≡ Some false
      → MatchOption o (limit ≤ cost lines p ps) (λ c. AreCounts lines p ps c)
      → SoFar lines ps used bound (n + 1) (taken_in limit n best o)
  taken limit best None is so free m = stays best so (λ can. let d : limit ≤ cost lines p ps = m in omega arith)
  taken limit best (Some c) is so free k =
      by_test limit best c is so free k (nat_eq c.left 0 || nat_le limit (cost_by c))
      (kept (c.left) limit (cost_by c)) (better (c.left) limit (cost_by c))

-- a piece on the straight line of an earlier piece of an unused line needs no count
pub skips : (lines : List Edge) (ps : List Piece) (used : List Bool) (bound n : ℕ) (p : Piece) → slice_get ps n ≡ Some p
    → All IsEdge lines → All (IsPiece lines) ps → (best : Option Choice)
    → SoFar lines ps used bound n best → HasEarlier lines ps used n p → SoFar lines ps used bound (n + 1) best
skips lines ps used bound n p at drawn each best before h =
    let on : OnOneLine lines h.piece p = record { drawn = drawn; first = All-at (IsPiece lines) ps h.place h.piece each h.stands; second = All-at (IsPiece lines) ps n p each at; along = h.along } in
    stays lines ps used bound n p at best before (λ k. dear best before (candidate_too lines used h.piece p ps n on each at h.free k) (same_cost lines h.piece p ps on each))
  where
    dear : (best : Option Choice) → SoFar lines ps used bound n best → IsCandidate lines ps used h.piece → cost lines p ps ≡ cost lines h.piece ps → limit_by bound best ≤ cost lines p ps
    dear None none can e = let a = none h.place h.piece h.before h.stands can in omega arith
    dear (Some c) b can e =
        let l = b.least h.place h.piece h.before h.stands can in
        let m = limit_is lines ps used bound n p at c b in
        omega arith

-- what was seen under a number is an earlier piece on the same straight line
pub earlier_found : (lines : List Edge) (ps : List Piece) (used : List Bool) (n : ℕ) (p : Piece) (k : ℕ) (d : Piece)
    → All (IsPiece lines) ps → length used ≡ length lines → k < n → n < length ps
    → get_or used (get_or ps k d).line false ≡ false → LiesAlong lines (get_or ps k d) p → HasEarlier lines ps used n p
earlier_found lines ps used n p k d each known h w free along =
    let at = stands_at ps k d (omega arith) in
    let within = (All-at (IsPiece lines) ps k (get_or ps k d) each at).line_in in
    record { place = k; piece = get_or ps k d; before = h; stands = at; free = stands_at used (get_or ps k d).line false (omega arith) ∙ ap Some free; along = along }

-- what is known once all pieces are looked at
pub finished : (lines : List Edge) (ps : List Piece) (used : List Bool) (bound n : ℕ) (best : Option Choice)
    → length ps < 2 ^ 32 → IsBound lines ps used bound → length ps ≤ n → SoFar lines ps used bound n best
    → MatchOption best (HasNoChoice lines ps used) (λ c. IsChoice lines ps used c)
finished lines ps used bound n None few is h none =
    λ i p at can. ⊎_elim
    (λ e. let w = slice_get_within ps i p at in let a = none i p (omega arith) at can in let m = cost_small lines p ps in absurd (omega arith))
    (λ u. let w = slice_get_within ps u.place u.piece u.stands in let a = none u.place u.piece (omega arith) u.stands u.candidate in let b = u.below in absurd (omega arith))
    is
finished lines ps used bound n (Some c) few is h b = record {
  piece = b.piece;
  best = record {
    stands = b.stands;
    candidate = b.candidate;
    least = λ j q at can. b.least j q (let w = slice_get_within ps j q at in omega arith) at can;
    first = b.first;
  };
  splits = b.splits;
  right = b.right;
  left = b.left;
}

-- ---- reads by number
pub line_known : (lines : List Edge) (used : List Bool) (p : Piece) → IsPiece lines p → length used ≡ length lines → p.line < length used
line_known lines used p h e = let l = h.line_in in omega arith

pub before_within : (ps : List Piece) (i n : ℕ) (p : Piece) → i < n → slice_get ps n ≡ Some p → i < length ps
before_within ps i n p h e = let w = slice_get_within ps n p e in omega arith

-- a piece of a used line is no candidate
pub used_stays : (lines : List Edge) (ps : List Piece) (used : List Bool) (bound n : ℕ) (p : Piece)
    → slice_get ps n ≡ Some p → (best : Option Choice) → p.line < length used → get_or used p.line false ≡ true
    → SoFar lines ps used bound n best → SoFar lines ps used bound (n + 1) best
used_stays lines ps used bound n p stands best within flag so_far =
    stays lines ps used bound n p stands best so_far (λ h. let e = stands_at used p.line false within ∙ ap Some flag in let f = h.0 in cc)
