-- The pieces that their rounded ends decide are counted, and then those that these leave flags.
use Rattle.std.proofs.Common.{◌≡◌, refl, sym, ap, ◌∙◌, subst, ℕ, suc, ◌+◌, ◌-◌, ◌*◌, ◌<◌, ◌≤◌, Bool, true, false, ◌&&◌, ◌||◌, List, [], ◌∷◌, ◌++◌, length, take, drop, set, get_or, drop-cons, arith, All}
use Rattle.std.proofs.lemmas.List.{length-take, length-append, append-nil, take_more, take_more_set, take_all, drop_all}
use mir.Val.{bool_byte}
use Rattle.std.proofs.lemmas.List.{take-set, append_assoc}
use Rattle.std.proofs.lemmas.List.Elements.{All-nil, All-cons, All-append, All-get_or}
use Rattle.std.proofs.lemmas.Bool.Decides.{nat_tests}
use Rattle.std.specs.Prelude.{nat_eq}
use Rattle.tree_pieces.specs.declared.edge.Edge.{Edge}
use Rattle.tree_pieces.specs.declared.piece.Piece.{Piece}
use Rattle.tree_pieces.specs.Pieces.{ray_of, first_end, last_end, IsPiece}
use Rattle.tree_pieces.specs.Tree.{cost}
use Rattle.tree_pieces.proofs.Stops.{cost_at_least, rights_append, lefts_append, splits_append, Counted, block_counted}
use Rattle.tree_choice.specs.declared.counts.Counts.{Counts}
use Rattle.tree_choice.specs.Counts.{AreCounts}
use Rattle.tree_choice.specs.Clear.{flagged, pieces_at, IsClear, AreCountsBut}
use Rattle.tree_choice.proofs.OneMore.{one, piece_counts}
use Rattle.tree_choice.proofs.EndLemmas.{IsWellRight, IsWellLeft, ends_right, ends_left, ends_down, ends_up, parted_counts}

-- what the sides of its two ends say of a piece
module _ (lines : List Edge) (p q : Piece) (ok : IsPiece lines q) where
  undecided : (c : Counts) → c.right ≡ 0 → c.left ≡ 0 → c.splits ≡ 0 → IsClear lines p q c
  undecided c r l s = record { counts = λ h. absurd (omega arith); none = λ h. s; one = λ h. absurd (omega arith) }

  decided : (c : Counts) → AreCounts lines p (q ∷ []) c → 0 < c.right + c.left → c.right + c.left ≡ 1 + c.splits → IsClear lines p q c
  decided c a h e = record { counts = λ k. a; none = λ k. absurd (omega arith); one = λ k. e }

  pub by_sides : (fr fl lr ll : Bool) → (fr && fl) ≡ false → (lr && ll) ≡ false
      → (fr ≡ true → IsWellRight (ray_of lines p) (first_end lines q)) → (fl ≡ true → IsWellLeft (ray_of lines p) (first_end lines q))
      → (lr ≡ true → IsWellRight (ray_of lines p) (last_end lines q)) → (ll ≡ true → IsWellLeft (ray_of lines p) (last_end lines q))
      → (c : Counts) → c.right ≡ one ((fr && lr) || ((fr && ll) || (fl && lr))) → c.left ≡ one ((fl && ll) || ((fr && ll) || (fl && lr)))
      → c.splits ≡ one ((fr && ll) || (fl && lr)) → IsClear lines p q c
  by_sides true true lr ll a b hr hl kr kl c r l s = absurd (cc)
  by_sides true false true true a b hr hl kr kl c r l s = absurd (cc)
  by_sides true false true false a b hr hl kr kl c r l s =
      decided c (piece_counts lines p q _ c (sym (ends_right lines p q ok (hr refl) (kr refl))) r l s) (omega arith) (omega arith)
  by_sides true false false true a b hr hl kr kl c r l s =
      decided c (parted_counts lines p q ok c (ends_down lines p q ok (hr refl) (kl refl)) r l s) (omega arith) (omega arith)
  by_sides true false false false a b hr hl kr kl c r l s = undecided c r l s
  by_sides false true true true a b hr hl kr kl c r l s = absurd (cc)
  by_sides false true true false a b hr hl kr kl c r l s =
      decided c (parted_counts lines p q ok c (ends_up lines p q ok (hl refl) (kr refl)) r l s) (omega arith) (omega arith)
  by_sides false true false true a b hr hl kr kl c r l s =
      decided c (piece_counts lines p q _ c (sym (ends_left lines p q ok (hl refl) (kl refl))) r l s) (omega arith) (omega arith)
  by_sides false true false false a b hr hl kr kl c r l s = undecided c r l s
  by_sides false false lr ll a b hr hl kr kl c r l s = undecided c r l s

-- one more flag, and one more piece
flagged_more : (fs : List Bool) (ps : List Piece) (f : Bool) (q : Piece) → length fs ≡ length ps
    → flagged (fs ++ (f ∷ [])) (ps ++ (q ∷ [])) ≡ flagged fs ps ++ flagged (f ∷ []) (q ∷ [])
flagged_more [] [] f q e = refl
flagged_more [] (p ∷ ps) f q e = absurd (omega arith)
flagged_more (g ∷ fs) [] f q e = absurd (omega arith)
flagged_more (true ∷ fs) (p ∷ ps) f q e = ap (λ (xs : List Piece). p ∷ xs) (flagged_more fs ps f q (omega arith))
flagged_more (false ∷ fs) (p ∷ ps) f q e = flagged_more fs ps f q (omega arith)

pub all_flags : (fs : List Bool) (ps : List Piece) (n : ℕ) → length ps ≤ n → length fs ≡ length ps → length (flagged (take n fs) (take n ps)) ≡ length (flagged fs ps)
all_flags fs ps n h same =
    ap (λ (xs : List Bool). length (flagged xs (take n ps))) (take_all n fs (omega arith)) ∙ ap (λ (xs : List Piece). length (flagged fs xs)) (take_all n ps h)

next_of : {X : Type 0} (xs : List X) (n : ℕ) (d : X) → n < length xs → drop n xs ≡ get_or xs n d ∷ drop (n + 1) xs
next_of {X} xs n d h = let e : suc n ≡ n + 1 = omega arith in drop-cons xs n d h ∙ ap (λ (i : ℕ). get_or xs n d ∷ drop i xs) e

both_zero : (a b : ℕ) → (nat_eq a 0 && nat_eq b 0) ≡ true → a + b ≡ 0
both_zero a b e = grind (arith, nat_tests)

not_zero : (a b : ℕ) → (nat_eq a 0 && nat_eq b 0) ≡ false → 0 < a + b
not_zero a b e = grind (arith, nat_tests)

-- ---- the places of flagged pieces
at_place : (ps : List Piece) (k : ℕ) (d : Piece) → k < length ps → take 1 (drop k ps) ≡ get_or ps k d ∷ []
at_place ps k d h = ap (take 1) (next_of ps k d h)

one_more_at : (ps : List Piece) (ks : List ℕ) (k : ℕ) → pieces_at ps (ks ++ (k ∷ [])) ≡ pieces_at ps ks ++ take 1 (drop k ps)
one_more_at ps [] k = append-nil (take 1 (drop k ps))
one_more_at ps (j ∷ ks) k = ap (λ (qs : List Piece). take 1 (drop j ps) ++ qs) (one_more_at ps ks k) ∙ sym (append_assoc (take 1 (drop j ps)) (pieces_at ps ks) (take 1 (drop k ps)))

pub place_step : (ps : List Piece) (flags : List Bool) (places : List ℕ) (n count : ℕ) (d : Piece) (b : Bool) → n < length ps → length flags ≡ length ps
    → get_or flags n false ≡ b → count < length places → pieces_at ps (take count places) ≡ flagged (take n flags) (take n ps)
    → pieces_at ps (take (count + bool_byte b) (set places count n)) ≡ flagged (take (n + 1) flags) (take (n + 1) ps)
place_step ps flags places n count d b h same e room is = by_flag b e
  where
    whole : flagged (take (n + 1) flags) (take (n + 1) ps) ≡ flagged (take n flags) (take n ps) ++ flagged (get_or flags n false ∷ []) (get_or ps n d ∷ [])
    whole =
        let lo = length-take n flags in
        let lp = length-take n ps in
        let w : n < length flags = omega arith in
        ap (λ (fs : List Bool). flagged fs (take (n + 1) ps)) (take_more flags n false w)
        ∙ ap (flagged (take n flags ++ (get_or flags n false ∷ []))) (take_more ps n d h)
        ∙ flagged_more (take n flags) (take n ps) (get_or flags n false) (get_or ps n d) (omega arith)

    by_flag : (b : Bool) → get_or flags n false ≡ b → pieces_at ps (take (count + bool_byte b) (set places count n)) ≡ flagged (take (n + 1) flags) (take (n + 1) ps)
    by_flag true f =
        ap (pieces_at ps) (take_more_set places count n room) ∙ one_more_at ps (take count places) n
        ∙ ap (λ (qs : List Piece). pieces_at ps (take count places) ++ qs) (at_place ps n d h)
        ∙ ap (λ (qs : List Piece). qs ++ (get_or ps n d ∷ [])) is
        ∙ sym (whole ∙ ap (λ (x : Bool). flagged (take n flags) (take n ps) ++ flagged (x ∷ []) (get_or ps n d ∷ [])) f)
    by_flag false f =
        let z : count + 0 ≡ count = omega arith in
        ap (λ (i : ℕ). pieces_at ps (take i (set places count n))) z ∙ ap (pieces_at ps) (take-set places count n) ∙ is
        ∙ sym (whole ∙ ap (λ (x : Bool). flagged (take n flags) (take n ps) ++ flagged (x ∷ []) (get_or ps n d ∷ [])) f ∙ append-nil (flagged (take n flags) (take n ps)))

pub place_within : (m : ℕ) (places : List ℕ) (n count : ℕ) (b : Bool) → n < m → count < length places → All (λ k. k < m) (take count places)
    → All (λ k. k < m) (take (count + bool_byte b) (set places count n))
place_within m places n count true h room all =
    subst (All (λ (k : ℕ). k < m)) (sym (take_more_set places count n room)) (All-append (λ (k : ℕ). k < m) (take count places) (n ∷ []) all (All-cons (λ (k : ℕ). k < m) n [] h (All-nil (λ (k : ℕ). k < m))))
place_within m places n count false h room all =
    let z : count ≡ count + 0 = omega arith in
    subst (λ (i : ℕ). All (λ k. k < m) (take i (set places count n))) z (subst (All (λ (k : ℕ). k < m)) (sym (take-set places count n)) all)

-- the pieces that aren't counted yet: the flagged ones among the first n, and all behind them
abbrev pub uncounted : List Bool → List Piece → ℕ → List Piece
uncounted flags ps n = flagged (take n flags) (take n ps) ++ drop n ps

module _ (lines : List Edge) (p : Piece) where
  -- a piece is counted, or else it is flagged
  one_flagged : (q : Piece) (c : Counts) (f : Bool) → IsClear lines p q c → (nat_eq c.right 0 && nat_eq c.left 0) ≡ f
      → Counted lines p (q ∷ []) (flagged (f ∷ []) (q ∷ [])) c.right c.left c.splits
  one_flagged q c true k e =
      let z = both_zero c.right c.left e in
      let s = k.none z in
      record { right = omega arith; left = omega arith; splits = omega arith }
  one_flagged q c false k e =
      let a = k.counts (not_zero c.right c.left e) in
      let ar = a.right in
      let al = a.left in
      let as' = a.splits in
      record { right = omega arith; left = omega arith; splits = omega arith }

  pub clear_step : (ps : List Piece) (flags : List Bool) (n : ℕ) (d : Piece) (r l s : ℕ) (c : Counts) → n < length ps → length flags ≡ length ps
      → Counted lines p ps (uncounted flags ps n) r l s → IsClear lines p (get_or ps n d) c
      → Counted lines p ps (uncounted (set flags n (nat_eq c.right 0 && nat_eq c.left 0)) ps (n + 1)) (r + c.right) (l + c.left) (s + c.splits)
  clear_step ps flags n d r l s c h same k clear =
      let f = nat_eq c.right 0 && nat_eq c.left 0 in
      let q = get_or ps n d in
      let before = flagged (take n flags) (take n ps) in
      let left' = flagged (f ∷ []) (q ∷ []) in
      let rest = drop (n + 1) ps in
      let lo = length-take n flags in
      let lp = length-take n ps in
      let w : n < length flags = omega arith in
      let e : flagged (take (n + 1) (set flags n f)) (take (n + 1) ps) ≡ before ++ left' =
      ap (λ (fs : List Bool). flagged fs (take (n + 1) ps)) (take_more_set flags n f w)
      ∙ ap (flagged (take n flags ++ (f ∷ []))) (take_more ps n d h)
      ∙ flagged_more (take n flags) (take n ps) f q (omega arith) in
      let new : uncounted (set flags n f) ps (n + 1) ≡ (before ++ left') ++ rest = ap (λ (xs : List Piece). xs ++ rest) e in
      let old : uncounted flags ps n ≡ before ++ ((q ∷ []) ++ rest) = ap (λ (xs : List Piece). before ++ xs) (next_of ps n d h) in
      let o = one_flagged q c f clear refl in
      let k' = subst (λ (xs : List Piece). Counted lines p ps xs r l s) old k in
      subst (λ (xs : List Piece). Counted lines p ps xs (r + c.right) (l + c.left) (s + c.splits)) (sym new)
      (by_sums before left' (q ∷ []) rest k' o)
    where
      by_sums : (before left' one' rest : List Piece) → Counted lines p ps (before ++ (one' ++ rest)) r l s
          → Counted lines p one' left' c.right c.left c.splits
          → Counted lines p ps ((before ++ left') ++ rest) (r + c.right) (l + c.left) (s + c.splits)
      by_sums before left' one' rest k o =
          let a1 = rights_append lines p before (one' ++ rest) in
          let a2 = rights_append lines p one' rest in
          let a3 = rights_append lines p (before ++ left') rest in
          let a4 = rights_append lines p before left' in
          let b1 = lefts_append lines p before (one' ++ rest) in
          let b2 = lefts_append lines p one' rest in
          let b3 = lefts_append lines p (before ++ left') rest in
          let b4 = lefts_append lines p before left' in
          let c1 = splits_append lines p before (one' ++ rest) in
          let c2 = splits_append lines p one' rest in
          let c3 = splits_append lines p (before ++ left') rest in
          let c4 = splits_append lines p before left' in
          let kr = k.right in
          let kl = k.left in
          let ks = k.splits in
          let or' = o.right in
          let ol = o.left in
          let os = o.splits in
          record { right = omega arith; left = omega arith; splits = omega arith }

  -- how many of the first n pieces are flagged
  pub flags_step : (ps : List Piece) (flags : List Bool) (n : ℕ) (d : Piece) (r l s : ℕ) (c : Counts) → n < length ps → length flags ≡ length ps
      → n + s ≡ r + l + length (flagged (take n flags) (take n ps)) → IsClear lines p (get_or ps n d) c
      → (n + 1) + (s + c.splits) ≡ (r + c.right) + (l + c.left)
      + length (flagged (take (n + 1) (set flags n (nat_eq c.right 0 && nat_eq c.left 0))) (take (n + 1) ps))
  flags_step ps flags n d r l s c h same k clear =
      let f = nat_eq c.right 0 && nat_eq c.left 0 in
      let q = get_or ps n d in
      let before = flagged (take n flags) (take n ps) in
      let lo = length-take n flags in
      let lp = length-take n ps in
      let w : n < length flags = omega arith in
      let e : flagged (take (n + 1) (set flags n f)) (take (n + 1) ps) ≡ before ++ flagged (f ∷ []) (q ∷ []) =
      ap (λ (fs : List Bool). flagged fs (take (n + 1) ps)) (take_more_set flags n f w)
      ∙ ap (flagged (take n flags ++ (f ∷ []))) (take_more ps n d h)
      ∙ flagged_more (take n flags) (take n ps) f q (omega arith) in
      let m = ap (λ (xs : List Piece). length xs) e ∙ length-append before (flagged (f ∷ []) (q ∷ [])) in
      let o = by_flag q c f clear refl in
      omega arith
    where
      by_flag : (q : Piece) (c : Counts) (f : Bool) → IsClear lines p q c → (nat_eq c.right 0 && nat_eq c.left 0) ≡ f
          → 1 + c.splits ≡ c.right + c.left + length (flagged (f ∷ []) (q ∷ []))
      by_flag q c true k e =
          let z = both_zero c.right c.left e in
          let s = k.none z in
          let one' : length (flagged (true ∷ []) (q ∷ [])) ≡ 1 = refl in
          omega arith
      by_flag q c false k e =
          let a = k.one (not_zero c.right c.left e) in
          let none' : length (flagged (false ∷ []) (q ∷ [])) ≡ 0 = refl in
          omega arith

  -- what is counted may tell that the cost is the limit or more
  pub dear_by_clear : (ps rest : List Piece) (c : Counts) (limit : ℕ) → AreCountsBut lines p ps rest c
      → limit ≤ 8 * c.splits + ((c.right - c.left - (length ps + c.splits - c.right - c.left)) + (c.left - c.right - (length ps + c.splits - c.right - c.left)))
      → limit ≤ cost lines p ps
  dear_by_clear ps rest c limit k h =
      let o = k.others in
      let d = cost_at_least lines p ps rest c.right c.left c.splits (record { right = k.right; left = k.left; splits = k.splits }) in
      let e : length ps + c.splits - c.right - c.left ≡ length rest = omega arith in
      let g = rw e at h in
      omega arith

  -- behind the last piece the flagged ones are left
  pub clear_all : (ps : List Piece) (flags : List Bool) (n : ℕ) (r l s : ℕ) → length ps ≤ n → length flags ≡ length ps
      → Counted lines p ps (uncounted flags ps n) r l s → Counted lines p ps (flagged flags ps) r l s
  clear_all ps flags n r l s h same k =
      let e : uncounted flags ps n ≡ flagged flags ps =
      ap (λ (xs : List Piece). flagged (take n flags) (take n ps) ++ xs) (drop_all n ps h)
      ∙ append-nil (flagged (take n flags) (take n ps))
      ∙ ap (λ (fs : List Bool). flagged fs (take n ps)) (take_all n flags (omega arith))
      ∙ ap (flagged flags) (take_all n ps h) in
      subst (λ (xs : List Piece). Counted lines p ps xs r l s) e k

  -- ---- the pieces at noted places
  pub place_counted : (ps : List Piece) (places : List ℕ) (n : ℕ) (d : Piece) (r l s : ℕ) (c : Counts) → n < length places → All (λ k. k < length ps) places
      → Counted lines p ps (pieces_at ps (drop n places)) r l s → AreCounts lines p (get_or ps (get_or places n 0) d ∷ []) c
      → Counted lines p ps (pieces_at ps (drop (n + 1) places)) (r + c.right) (l + c.left) (s + c.splits)
  place_counted ps places n d r l s c h within k a =
      let q = get_or ps (get_or places n 0) d in
      let e : pieces_at ps (drop n places) ≡ (q ∷ []) ++ pieces_at ps (drop (n + 1) places) =
      ap (pieces_at ps) (next_of places n 0 h)
      ∙ ap (λ (qs : List Piece). qs ++ pieces_at ps (drop (n + 1) places)) (at_place ps (get_or places n 0) d (All-get_or (λ (j : ℕ). j < length ps) places n 0 h within)) in
      let k' = subst (λ (xs : List Piece). Counted lines p ps xs r l s) e k in
      block_counted lines p ps (q ∷ []) (pieces_at ps (drop (n + 1) places)) r l s c.right c.left c.splits k' (sym a.right) (sym a.left) (sym a.splits)

  pub places_counted : (ps : List Piece) (places : List ℕ) (n : ℕ) (c : Counts) → length places ≤ n
      → Counted lines p ps (pieces_at ps (drop n places)) c.right c.left c.splits → AreCounts lines p ps c
  places_counted ps places n c h k =
      let k' = subst (λ (xs : List ℕ). Counted lines p ps (pieces_at ps xs) c.right c.left c.splits) (drop_all n places h) k in
      let kr = k'.right in
      let kl = k'.left in
      let ks = k'.splits in
      record { right = omega arith; left = omega arith; splits = omega arith }
