-- What is known of pieces, as one more is counted or appended.
use Rattle.std.proofs.Common.{◌≡◌, refl, sym, ap, ◌∙◌, subst, ℕ, zero, suc, ◌+◌, ◌≤◌, ◌⊎◌, inl, inr, ⊎_elim, List, [], ◌∷◌, ◌++◌, length, Option, Some, None, arith, slice_get, Bool, false}
use Rattle.std.proofs.lemmas.Option.{same_Some}
use Rattle.std.specs.Prelude.{MatchOption}
use Rattle.tree_pieces.specs.declared.edge.Edge.{Edge}
use Rattle.tree_pieces.specs.declared.piece.Piece.{Piece}
use Rattle.tree_pieces.specs.Tree.{cost}
use Rattle.tree_choice.specs.declared.counts.Counts.{Counts}
use Rattle.tree_choice.specs.declared.floors.Floor.{Floor}
use Rattle.tree_choice.specs.Counts.{AreCounts, cost_by}
use Rattle.tree_choice.specs.SoFar.{IsBound}
use Rattle.tree_choice.proofs.Best.{cost_by_counts}
use Rattle.tree_choice.specs.Floors.{IsFloor, AreFloors}

-- a count up to a limit is a count up to a nearer one
pub nearer : (lines : List Edge) (p : Piece) (ps : List Piece) (limit far : ℕ) (o : Option Counts) → limit ≤ far
    → MatchOption o (far ≤ cost lines p ps) (λ c. AreCounts lines p ps c)
    → MatchOption o (limit ≤ cost lines p ps) (λ c. AreCounts lines p ps c)
nearer lines p ps limit far None h m = let d : far ≤ cost lines p ps = m in omega arith
nearer lines p ps limit far (Some c) h m = m

-- what stands in a list with one more element: what stood there, or the new one behind all
push_reads : {X : Type 0} (xs : List X) (k : ℕ) (x y : X) → slice_get (xs ++ x ∷ []) k ≡ Some y → ((k ≡ length xs) × (x ≡ y)) ⊎ (slice_get xs k ≡ Some y)
push_reads [] zero x y e = inl (refl, same_Some _ _ e)
push_reads [] (suc k) x y e = inr e
push_reads (z ∷ xs) zero x y e = inr e
push_reads (z ∷ xs) (suc k) x y e = ⊎_elim (λ h. inl (ap suc h.0, h.1)) (λ h. inr h) (push_reads xs k x y e)

-- one more is known where it is appended
pub push_known : (lines : List Edge) (ps qs : List Piece) (floors : List Floor) (q : Piece) (f : Floor)
    → AreFloors lines ps qs floors → slice_get qs (length floors) ≡ Some q → IsFloor lines ps q f
    → AreFloors lines ps qs (floors ++ f ∷ [])
push_known lines ps qs floors q f h s is = record {
  each = λ k r g e d. ⊎_elim
      (λ t. let same : Some q ≡ Some r = sym s ∙ ap (slice_get qs) (sym t.0) ∙ e in
      subst (λ (x : Floor). IsFloor lines ps r x) t.1 (subst (λ (x : Piece). IsFloor lines ps x f) (same_Some _ _ same) is))
      (λ t. h.each k r g e t) (push_reads floors k f g d);
}

-- a candidate that is counted bounds the choice
pub bound_found : (lines : List Edge) (ps : List Piece) (used : List Bool) (n : ℕ) (p : Piece) (c : Counts) (b : ℕ)
    → slice_get ps n ≡ Some p → slice_get used p.line ≡ Some false → AreCounts lines p ps c → (c.left ≡ 0 → ⊥)
    → b ≡ cost_by c + 1 → IsBound lines ps used b
bound_found lines ps used n p c b stands free k some is =
    let l = k.left in
    let m = cost_by_counts lines p ps c k in
    inr (record { place = n; piece = p; stands = stands; candidate = (free, omega arith); below = omega arith })
