-- What a list loses and gains, and what that does to costs.
use Rattle.std.proofs.Common.{◌≡◌, refl, ap, ◌∙◌, ℕ, ◌+◌, ◌*◌, ◌-◌, ◌<◌, ◌≤◌, cond, List, [], ◌∷◌, ◌++◌, length, take, get_or, arith}
use Rattle.std.proofs.lemmas.List.{take_more}
use Rattle.std.proofs.lemmas.List.Sums.{sum_by-append}
use Rattle.std.specs.List.{sum_by}
use Rattle.tree_pieces.specs.declared.edge.Edge.{Edge}
use Rattle.tree_pieces.specs.declared.piece.Piece.{Piece}
use Rattle.tree_pieces.specs.Division.{parts_of}
use Rattle.tree_pieces.specs.Tree.{is_split, cost}
use Rattle.tree_pieces.proofs.Stops.{rights, lefts, splits}
use Rattle.tree_choice.specs.declared.losses.Change.{Change}
use Rattle.tree_choice.specs.Floors.{IsExchanged}
use Rattle.tree_choice.specs.Losses.{IsChange}
use Rattle.tree_choice.proofs.Reordered.{kept_sum, weight}

-- the sum over a list with one more piece
sum_push : (w : Piece → ℕ) (xs : List Piece) (x : Piece) → sum_by w (xs ++ x ∷ []) ≡ sum_by w xs + w x
sum_push w xs x = let a = sum_by-append w xs (x ∷ []) in let b : sum_by w (x ∷ []) ≡ 0 + w x = refl in omega arith

-- the sum over the first pieces of a list, with the next one
pub sum_next : (w : Piece → ℕ) (xs : List Piece) (n : ℕ) (d : Piece) → n < length xs → sum_by w (take (n + 1) xs) ≡ sum_by w (take n xs) + w (get_or xs n d)
sum_next w xs n d h = ap (sum_by w) (take_more xs n d h) ∙ sum_push w (take n xs) (get_or xs n d)

-- the next piece of the list is the next one of the part
pub both_next : (ps part gone new : List Piece) (n m : ℕ) (d e : Piece) → n < length ps → m < length part
    → get_or ps n d ≡ get_or part m e → IsExchanged (take n ps) (take m part) gone new
    → IsExchanged (take (n + 1) ps) (take (m + 1) part) gone new
both_next ps part gone new n m d e h k same x = record {
  sums = λ w. let a = sum_next w ps n d h in let b = sum_next w part m e k in let c = ap w same in let f = x.sums w in omega arith;
}

-- the next piece of the list is gone
pub one_gone : (ps part gone new : List Piece) (n m : ℕ) (d : Piece) → n < length ps
    → IsExchanged (take n ps) (take m part) gone new
    → IsExchanged (take (n + 1) ps) (take m part) (gone ++ get_or ps n d ∷ []) new
one_gone ps part gone new n m d h x = record {
  sums = λ w. let a = sum_next w ps n d h in let b = sum_push w gone (get_or ps n d) in let f = x.sums w in omega arith;
}

-- the next piece of the part is new
pub one_new : (front part gone new : List Piece) (m : ℕ) (e : Piece) → m < length part
    → IsExchanged front (take m part) gone new
    → IsExchanged front (take (m + 1) part) gone (new ++ get_or part m e ∷ [])
one_new front part gone new m e h x = record {
  sums = λ w. let a = sum_next w part m e h in let b = sum_push w new (get_or part m e) in let f = x.sums w in omega arith;
}

module _ (lines : List Edge) (p : Piece) (ps part gone new : List Piece) (x : IsExchanged ps part gone new) where
  pub rights_too : rights lines p ps + rights lines p new ≡ rights lines p part + rights lines p gone
  rights_too =
      let f = λ (q : Piece). (parts_of lines p q).right in
      let a = kept_sum f ps in let b = kept_sum f new in let c = kept_sum f part in let d = kept_sum f gone in
      let e = x.sums (λ q. weight (f q)) in omega arith

  pub lefts_too : lefts lines p ps + lefts lines p new ≡ lefts lines p part + lefts lines p gone
  lefts_too =
      let f = λ (q : Piece). (parts_of lines p q).left in
      let a = kept_sum f ps in let b = kept_sum f new in let c = kept_sum f part in let d = kept_sum f gone in
      let e = x.sums (λ q. weight (f q)) in omega arith

  pub splits_too : splits lines p ps + splits lines p new ≡ splits lines p part + splits lines p gone
  splits_too = x.sums (λ (q : Piece). cond (is_split lines p q) 1 0)

-- the cost in the part is at least that in the list, less what the change may take off
pub cost_lowered : (lines : List Edge) (p : Piece) (ps part : List Piece) (c : Change) (n : ℕ) → IsChange lines p ps part c → n ≤ cost lines p ps
    → n - (8 * (c.lost.splits - c.gained.splits) + (((c.lost.right + c.gained.left) - (c.lost.left + c.gained.right)) + ((c.lost.left + c.gained.right) - (c.lost.right + c.gained.left)))) ≤ cost lines p part
cost_lowered lines p ps part c n k below = by_numbers _ _ _ _ _ _ n _ _ _ _ _ _ k.splits k.right k.left below
  where
    by_numbers : (S R L S' R' L' n Sg Rg Lg s r l : ℕ) → S + s ≡ S' + Sg → R + r ≡ R' + Rg → L + l ≡ L' + Lg
        → n ≤ 8 * S + ((R - L) + (L - R))
        → n - (8 * (Sg - s) + (((Rg + l) - (Lg + r)) + ((Lg + r) - (Rg + l)))) ≤ 8 * S' + ((R' - L') + (L' - R'))
    by_numbers S R L S' R' L' n Sg Rg Lg s r l a b d h = omega arith
