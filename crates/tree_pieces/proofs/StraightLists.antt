-- Two partitions on one straight line: the counts that they make of a list agree, or have right and left exchanged.
use Rattle.std.proofs.Common.{◌≡◌, refl, sym, ap, ◌∙◌, ⊎_elim, ◌⊎◌, inl, inr, slice_get, ℕ, ◌+◌, ◌*◌, ◌-◌, List, [], ◌∷◌, length, Option, Some, None, Bool, true, false, cond, ◌&&◌, arith, All}
use Rattle.std.proofs.lemmas.Int.{by_lt_z}
use Rattle.std.proofs.lemmas.Bool.{cases_lt}
use Rattle.std.proofs.lemmas.List.Elements.{All-head, All-tail}
use Rattle.std.proofs.lemmas.List.Sums.{sum_by-append}
use Rattle.std.specs.Prelude.{ℤ, pos, filter_map, is_some, count_by}
use Rattle.std.specs.List.{cons_option}
use Rattle.tree_pieces.specs.declared.edge.Edge.{Edge}
use Rattle.tree_pieces.specs.declared.frac.Frac.{Frac}
use Rattle.tree_pieces.specs.declared.piece.Piece.{Piece}
use Rattle.tree_pieces.specs.declared.piece.Parts.{Parts}
use Rattle.tree_pieces.specs.Plane.{vertex_value, dot, RunsWith, RunsAgainst}
use Rattle.tree_pieces.specs.Fractions.{between}
use Rattle.tree_pieces.specs.Pieces.{edge_of, ray_of, IsPiece}
use Rattle.tree_pieces.specs.Division.{value_by, LiesAlong, parts_by, parts_of}
use Rattle.tree_pieces.specs.Tree.{is_split, cost, Separates, IsCandidate}
use Rattle.lump_records.proofs.Signs.{linear}
use Rattle.tree_pieces.proofs.Crossing.{zero_everywhere}
use Rattle.tree_pieces.proofs.Lengths.{dot_not_zero}
use Rattle.tree_pieces.proofs.Trees.{may_divide}
use Rattle.tree_pieces.proofs.SignLemmas.{left_if}
use Rattle.tree_pieces.proofs.Lists.{none_left}
use Rattle.tree_pieces.proofs.Stops.{rights, lefts, splits}
use Rattle.tree_pieces.proofs.Straight.{OnOneLine, same_kept, turned_kept}

-- ---- whole lists
kept_as_many : {X Y Z : Type 0} (f : X → Option Y) (g : X → Option Z) (xs : List X) → All (λ x. is_some (f x) ≡ is_some (g x)) xs → length (filter_map f xs) ≡ length (filter_map g xs)
kept_as_many f g [] h = refl
kept_as_many {X} {Y} {Z} f g (x ∷ xs) h =
    by_heads (f x) (g x) (All-head (λ x. is_some (f x) ≡ is_some (g x)) x xs h) (kept_as_many f g xs (All-tail (λ x. is_some (f x) ≡ is_some (g x)) x xs h))
  where
    by_heads : (o : Option Y) (u : Option Z) → is_some o ≡ is_some u → length (filter_map f xs)
        ≡ length (filter_map g xs) → length (cons_option o (filter_map f xs)) ≡ length (cons_option u (filter_map g xs))
    by_heads None None e k = k
    by_heads None (Some z) e k = cc
    by_heads (Some y) None e k = cc
    by_heads (Some y) (Some z) e k = omega arith

counted_as_many : {X : Type 0} (f g : X → Bool) (xs : List X) → All (λ x. f x ≡ g x) xs → count_by f xs ≡ count_by g xs
counted_as_many f g [] h = refl
counted_as_many {X} f g (x ∷ xs) h =
    let e = All-head (λ x. f x ≡ g x) x xs h in
    let t = counted_as_many f g xs (All-tail (λ x. f x ≡ g x) x xs h) in
    let a : count_by f (x ∷ xs) ≡ count_by f (x ∷ []) + count_by f xs = sum_by-append (λ (y : X). cond (f y) 1 0) (x ∷ []) xs in
    let b : count_by g (x ∷ xs) ≡ count_by g (x ∷ []) + count_by g xs = sum_by-append (λ (y : X). cond (g y) 1 0) (x ∷ []) xs in
    let c : count_by f (x ∷ []) ≡ count_by g (x ∷ []) = ap (λ (y : Bool). 0 + cond y 1 0) e in
    omega arith

both_same : (a b c d : Bool) → a ≡ c → b ≡ d → (a && b) ≡ (c && d)
both_same a b c d e f = cc

both_turned : (a b c d : Bool) → a ≡ d → b ≡ c → (a && b) ≡ (c && d)
both_turned true true true true e f = refl
both_turned true true true false e f = cc
both_turned true true false d e f = cc
both_turned true false true d e f = cc
both_turned true false false d e f = refl
both_turned false true false d e f = cc
both_turned false true true true e f = cc
both_turned false true true false e f = refl
both_turned false false true d e f = cc
both_turned false false false d e f = refl

-- the counts by the second are those by the first
pub record CountSame (lines : List Edge) (a b : Piece) (ps : List Piece) : Type 0 where
  pub right : rights lines b ps ≡ rights lines a ps
  pub left : lefts lines b ps ≡ lefts lines a ps
  pub splits : splits lines b ps ≡ splits lines a ps

-- or have right and left exchanged
pub record CountTurned (lines : List Edge) (a b : Piece) (ps : List Piece) : Type 0 where
  pub right : rights lines b ps ≡ lefts lines a ps
  pub left : lefts lines b ps ≡ rights lines a ps
  pub splits : splits lines b ps ≡ splits lines a ps

pub same_counts : (lines : List Edge) (a b : Piece) (ps : List Piece) → OnOneLine lines a b → All (IsPiece lines) ps → RunsWith (ray_of lines a) (ray_of lines b) → CountSame lines a b ps
same_counts lines a b ps on each with = record {
  right = sym (kept_as_many (λ q. (parts_of lines a q).right) (λ q. (parts_of lines b q).right) ps (λ k d l. (same_kept lines a b on with _ (each k d l)).right));
  left = sym (kept_as_many (λ q. (parts_of lines a q).left) (λ q. (parts_of lines b q).left) ps (λ k d l. (same_kept lines a b on with _ (each k d l)).left));
  splits = sym (counted_as_many (is_split lines a) (is_split lines b) ps (λ k d l. let s = same_kept lines a b on with _ (each k d l) in both_same _ _ _ _ s.right s.left));
}

pub turned_counts : (lines : List Edge) (a b : Piece) (ps : List Piece) → OnOneLine lines a b → All (IsPiece lines) ps → RunsAgainst (ray_of lines a) (ray_of lines b) → CountTurned lines a b ps
turned_counts lines a b ps on each against = record {
  right = sym (kept_as_many (λ q. (parts_of lines a q).left) (λ q. (parts_of lines b q).right) ps (λ k d l. (turned_kept lines a b on against _ (each k d l)).left));
  left = sym (kept_as_many (λ q. (parts_of lines a q).right) (λ q. (parts_of lines b q).left) ps (λ k d l. (turned_kept lines a b on against _ (each k d l)).right));
  splits = sym (counted_as_many (is_split lines a) (is_split lines b) ps (λ k d l. let s = turned_kept lines a b on against _ (each k d l) in both_turned _ _ _ _ s.right s.left));
}

-- ---- the choice
-- the straight line is run along one way or the other
one_way : (lines : List Edge) (a b : Piece) → OnOneLine lines a b → RunsWith (ray_of lines a) (ray_of lines b) ⊎ RunsAgainst (ray_of lines a) (ray_of lines b)
one_way lines a b on =
    let z = dot (ray_of lines a) (ray_of lines b) in
    let may = may_divide lines on.drawn a b on.first on.second in
    by_lt_z (pos 0) z (λ h. inl h) (λ h. by_lt_z z (pos 0) (λ k. inr k) (λ k. absurd (dot_not_zero (ray_of lines a) (edge_of lines b) b.side may.long may.line on.along (omega (arith, linear)))))

-- two pieces on one straight line cost the same, in whatever directions
pub same_cost : (lines : List Edge) (a b : Piece) (ps : List Piece) → OnOneLine lines a b → All (IsPiece lines) ps → cost lines b ps ≡ cost lines a ps
same_cost lines a b ps on each = ⊎_elim
    (λ h. let c = same_counts lines a b ps on each h in by_same _ _ _ _ _ _ c.right c.left c.splits)
    (λ h. let c = turned_counts lines a b ps on each h in by_turned _ _ _ _ _ _ c.right c.left c.splits) (one_way lines a b on)
  where
    by_same : (r l s R L S : ℕ) → r ≡ R → l ≡ L → s ≡ S → 8 * s + ((r - l) + (l - r)) ≡ 8 * S + ((R - L) + (L - R))
    by_same r l s R L S e f g = omega arith

    by_turned : (r l s R L S : ℕ) → r ≡ L → l ≡ R → s ≡ S → 8 * s + ((r - l) + (l - r)) ≡ 8 * S + ((R - L) + (L - R))
    by_turned r l s R L S e f g = omega arith

-- one that runs against a partition on its straight line goes to the left
goes_left : (lines : List Edge) (a b : Piece) → LiesAlong lines a b → RunsAgainst (ray_of lines a) (ray_of lines b) → parts_of lines a b ≡ record { right = None; left = Some b }
goes_left lines a b on against =
    let u = at_zero b.from in
    let w = at_zero b.to in
    ap (parts_by lines a b) (left_if (value_by lines a b b.from) (value_by lines a b b.to)
    (dot (ray_of lines a) (ray_of lines b)) (omega (arith, linear)) (omega (arith, linear))
    (λ e f. omega (arith, linear)))
  where
    at_zero : (t : Frac) → value_by lines a b t ≡ pos 0
    at_zero t = ap (λ (x : ℤ). between x (vertex_value (ray_of lines a) (edge_of lines b).v2) t) on.0 ∙ ap (λ (x : ℤ). between (pos 0) x t) on.1 ∙ zero_everywhere t

-- where the later of two pieces of a list separates it, so does the earlier
pub separates_too : (lines : List Edge) (a b : Piece) (ps : List Piece) (n : ℕ) → OnOneLine lines a b → All (IsPiece lines) ps → slice_get ps n ≡ Some b → Separates lines b ps → Separates lines a ps
separates_too lines a b ps n on each at s = ⊎_elim
    (λ h. let l = (same_counts lines a b ps on each h).left in omega arith)
    (λ h. ⊎_elim (λ z. absurd (none (goes_left lines a b on.along h) (none_left (λ q. (parts_of lines a q).left) ps n b (omega arith) at))) (λ z. z) (cases_lt (lefts lines a ps) 1))
    (one_way lines a b on)
  where
    none : parts_of lines a b ≡ record { right = None; left = Some b } → (parts_of lines a b).left ≡ None → ⊥
    none e f = let g = ap (λ (x : Parts). x.left) e in cc

-- what may be chosen on a straight line: the earlier one too, where its line is unused
pub candidate_too : (lines : List Edge) (used : List Bool) (a b : Piece) (ps : List Piece) (n : ℕ) → OnOneLine lines a b
    → All (IsPiece lines) ps → slice_get ps n ≡ Some b → slice_get used a.line ≡ Some false
    → IsCandidate lines ps used b → IsCandidate lines ps used a
candidate_too lines used a b ps n on each at free can = (free, separates_too lines a b ps n on each at can.1)
