-- A block of pieces in a box on one side of a ray: all its pieces go to that side, and none is split.
use Rattle.std.proofs.Common.{◌≡◌, refl, ap, ℕ, ◌+◌, List, [], ◌∷◌, length, Some, None, Bool, false, cond, arith, All}
use Rattle.std.proofs.lemmas.List.Elements.{All-head, All-tail}
use Rattle.std.proofs.lemmas.List.Sums.{sum_by-append}
use Rattle.std.specs.Prelude.{pos, ◌<ℤ◌}
use Rattle.std.specs.List.{cons_option}
use Rattle.lump_records.specs.declared.records.Bounds.{Bounds}
use Rattle.tree_pieces.specs.declared.edge.Edge.{Edge}
use Rattle.tree_pieces.specs.declared.piece.Piece.{Piece}
use Rattle.tree_pieces.specs.declared.piece.Parts.{Parts}
use Rattle.tree_pieces.specs.Pieces.{ray_of, IsPiece}
use Rattle.tree_pieces.specs.Division.{parts_of, right_parts, left_parts}
use Rattle.tree_pieces.specs.Tree.{is_split}
use Rattle.tree_pieces.specs.Boxes.{least_value, greatest_value, HoldsPiece}
use Rattle.tree_pieces.proofs.Boxes.{box_right, box_left}
use Rattle.tree_pieces.proofs.Stops.{rights, lefts, splits}

-- what a block contributes
pub record Contributes (lines : List Edge) (p : Piece) (block : List Piece) (r l : ℕ) : Type 0 where
  pub right : rights lines p block ≡ r
  pub left : lefts lines p block ≡ l
  pub splits : splits lines p block ≡ 0

module _ (lines : List Edge) (p : Piece) where
  all_right : (block : List Piece) → All (λ q. parts_of lines p q ≡ record { right = Some q; left = None }) block → Contributes lines p block (length block) 0
  all_right [] h = record { right = refl; left = refl; splits = refl }
  all_right (q ∷ qs) h =
      let Q : Piece → Type 0 = λ x. parts_of lines p x ≡ record { right = Some x; left = None } in
      let e = All-head Q q qs h in
      let t = all_right qs (All-tail Q q qs h) in
      let right = t.right in
      let left = t.left in
      let none = t.splits in
      let a = ap (λ (x : Parts). length (cons_option x.right (right_parts lines p qs))) e in
      let b = ap (λ (x : Parts). length (cons_option x.left (left_parts lines p qs))) e in
      let c : splits lines p (q ∷ qs) ≡ splits lines p (q ∷ []) + splits lines p qs = sum_by-append (λ (x : Piece). cond (is_split lines p x) 1 0) (q ∷ []) qs in
      let d : is_split lines p q ≡ false = rw e refl in
      let f : splits lines p (q ∷ []) ≡ 0 = ap (λ (x : Bool). 0 + cond x 1 0) d in
      record { right = omega arith; left = omega arith; splits = omega arith }

  all_left : (block : List Piece) → All (λ q. parts_of lines p q ≡ record { right = None; left = Some q }) block → Contributes lines p block 0 (length block)
  all_left [] h = record { right = refl; left = refl; splits = refl }
  all_left (q ∷ qs) h =
      let Q : Piece → Type 0 = λ x. parts_of lines p x ≡ record { right = None; left = Some x } in
      let e = All-head Q q qs h in
      let t = all_left qs (All-tail Q q qs h) in
      let right = t.right in
      let left = t.left in
      let none = t.splits in
      let a = ap (λ (x : Parts). length (cons_option x.right (right_parts lines p qs))) e in
      let b = ap (λ (x : Parts). length (cons_option x.left (left_parts lines p qs))) e in
      let c : splits lines p (q ∷ qs) ≡ splits lines p (q ∷ []) + splits lines p qs = sum_by-append (λ (x : Piece). cond (is_split lines p x) 1 0) (q ∷ []) qs in
      let d : is_split lines p q ≡ false = rw e refl in
      let f : splits lines p (q ∷ []) ≡ 0 = ap (λ (x : Bool). 0 + cond x 1 0) d in
      record { right = omega arith; left = omega arith; splits = omega arith }

  -- the whole block on one side
  pub block_right : (block : List Piece) (b : Bounds) → All (IsPiece lines) block → All (HoldsPiece lines b) block
      → pos 0 <ℤ least_value (ray_of lines p) b → Contributes lines p block (length block) 0
  block_right block b ok holds h = all_right block (λ k d l. box_right lines p _ b (ok k d l) (holds k d l) h)

  pub block_left : (block : List Piece) (b : Bounds) → All (IsPiece lines) block → All (HoldsPiece lines b) block
      → greatest_value (ray_of lines p) b <ℤ pos 0 → Contributes lines p block 0 (length block)
  block_left block b ok holds h = all_left block (λ k d l. box_left lines p _ b (ok k d l) (holds k d l) h)
