-- The segs of pieces cover what the pieces do.
use Rattle.std.proofs.Common.{◌≡◌, refl, sym, ap, ◌∙◌, ℕ, suc, ◌+◌, List, [], ◌∷◌, length, Bool, true, false, cond, Some, arith, slice_get}
use Rattle.std.specs.Prelude.{count_by, nat_eq, ◌&&◌}
use Rattle.std.proofs.lemmas.List.Sums.{sum_by-cons}
use Rattle.lump_records.specs.declared.records.Vertex.{Vertex}
use Rattle.lump_records.specs.declared.records.Seg.{Seg}
use Rattle.tree_pieces.specs.declared.edge.Edge.{Edge}
use Rattle.tree_pieces.specs.declared.edge.Facing.{Facing}
use Rattle.tree_pieces.specs.declared.edge.Facing.TheVariants.{Along, Against}
use Rattle.tree_pieces.specs.declared.piece.Piece.{Piece}
use Rattle.tree_pieces.specs.Fractions.{steps_between, step_within}
use Rattle.tree_pieces.specs.Pieces.{edge_at, edge_of, first_end, last_end, same_side, covers, IsPiece}
use Rattle.tree_pieces.specs.Segs.{first_place, second_place, seg_covers, CoversStep}
use Rattle.tree_pieces.proofs.Steps.{piece_covers}
use Rattle.tree_nodes.specs.TreeLists.{side_number, start_of, end_of, IsSegOf}

-- ---- segs cover what their pieces cover
gone : (a w w' : Bool) → (a && false && w) ≡ (a && false && w')
gone true w w' = refl
gone false w w' = refl

module _ (lines : List Edge) (vertices : List Vertex) (line k : ℕ) (p : Piece) (s : Seg) (h : IsSegOf lines vertices p s) where
  pub covers_right : seg_covers lines vertices line 0 k s ≡ covers lines line Along k p
  covers_right = by_side p.side h.side h.first h.second
    where
      by_side : (f : Facing) → s.side ≡ side_number f → first_place lines vertices s ≡ start_of lines f p
          → second_place lines vertices s ≡ end_of lines f p → seg_covers lines vertices line 0 k s
          ≡ (nat_eq p.line line && same_side f Along && step_within (edge_of lines p) (first_end lines p)
          (last_end lines p) k)
      by_side Along e a b =
          ap (λ (n : ℕ). nat_eq n line && nat_eq s.side 0 && step_within (edge_at lines n) (first_place lines vertices s) (second_place lines vertices s) k) h.line
          ∙ ap (λ (n : ℕ). nat_eq p.line line && nat_eq n 0 && step_within (edge_of lines p) (first_place lines vertices s) (second_place lines vertices s) k) e
          ∙ ap (λ (v : Vertex). nat_eq p.line line && true && step_within (edge_of lines p) v (second_place lines vertices s) k) a
          ∙ ap (λ (v : Vertex). nat_eq p.line line && true && step_within (edge_of lines p) (first_end lines p) v k) b
      by_side Against e a b =
          ap (λ (n : ℕ). nat_eq n line && nat_eq s.side 0 && step_within (edge_at lines n) (first_place lines vertices s) (second_place lines vertices s) k) h.line
          ∙ ap (λ (n : ℕ). nat_eq p.line line && nat_eq n 0 && step_within (edge_of lines p) (first_place lines vertices s) (second_place lines vertices s) k) e
          ∙ gone (nat_eq p.line line) _ _

  pub covers_left : seg_covers lines vertices line 1 k s ≡ covers lines line Against k p
  covers_left = by_side p.side h.side h.first h.second
    where
      by_side : (f : Facing) → s.side ≡ side_number f → first_place lines vertices s ≡ start_of lines f p
          → second_place lines vertices s ≡ end_of lines f p → seg_covers lines vertices line 1 k s
          ≡ (nat_eq p.line line && same_side f Against
          && step_within (edge_of lines p) (first_end lines p) (last_end lines p) k)
      by_side Against e a b =
          ap (λ (n : ℕ). nat_eq n line && nat_eq s.side 1 && step_within (edge_at lines n) (second_place lines vertices s) (first_place lines vertices s) k) h.line
          ∙ ap (λ (n : ℕ). nat_eq p.line line && nat_eq n 1 && step_within (edge_of lines p) (second_place lines vertices s) (first_place lines vertices s) k) e
          ∙ ap (λ (v : Vertex). nat_eq p.line line && true && step_within (edge_of lines p) v (first_place lines vertices s) k) b
          ∙ ap (λ (v : Vertex). nat_eq p.line line && true && step_within (edge_of lines p) (first_end lines p) v k) a
      by_side Along e a b =
          ap (λ (n : ℕ). nat_eq n line && nat_eq s.side 1 && step_within (edge_at lines n) (second_place lines vertices s) (first_place lines vertices s) k) h.line
          ∙ ap (λ (n : ℕ). nat_eq p.line line && nat_eq n 1 && step_within (edge_of lines p) (second_place lines vertices s) (first_place lines vertices s) k) e
          ∙ gone (nat_eq p.line line) _ _

pub same_counts : {X Y : Type 0} (f : X → Bool) (g : Y → Bool) (xs : List X) (ys : List Y) → length xs ≡ length ys
    → ((i : ℕ) (y : Y) (x : X) → slice_get ys i ≡ Some y → slice_get xs i ≡ Some x → f x ≡ g y) → count_by f xs
    ≡ count_by g ys
same_counts f g [] [] l h = refl
same_counts f g [] (y ∷ ys) l h = absurd (omega arith)
same_counts f g (x ∷ xs) [] l h = absurd (omega arith)
same_counts {X} {Y} f g (x ∷ xs) (y ∷ ys) l h =
    sum_by-cons (λ (z : X). cond (f z) 1 0) x xs
    ∙ ap (λ (b : Bool). cond b 1 0 + count_by f xs) (h 0 y x refl refl)
    ∙ ap (λ (n : ℕ). cond (g y) 1 0 + n) (same_counts f g xs ys (omega arith) (λ i b a eb ea. h (suc i) b a eb ea))
    ∙ sym (sum_by-cons (λ (z : Y). cond (g z) 1 0) y ys)

-- the seg of a piece covers the piece's first step
pub covers_step : (lines : List Edge) (vertices : List Vertex) (p : Piece) (s : Seg) → IsSegOf lines vertices p s → IsPiece lines p → CoversStep lines vertices s
covers_step lines vertices p s h ok = (steps_between (edge_of lines p).v1 (first_end lines p), by_side p.side refl)
  where
    by_side : (f : Facing) → p.side ≡ f → seg_covers lines vertices s.line s.side (steps_between (edge_of lines p).v1 (first_end lines p)) s ≡ true
    by_side Along e =
        ap (λ (n : ℕ). seg_covers lines vertices n s.side (steps_between (edge_of lines p).v1 (first_end lines p)) s) h.line
        ∙ ap (λ (n : ℕ). seg_covers lines vertices p.line n (steps_between (edge_of lines p).v1 (first_end lines p)) s) (h.side ∙ ap side_number e)
        ∙ covers_right lines vertices p.line (steps_between (edge_of lines p).v1 (first_end lines p)) p s h
        ∙ ap (λ (f : Facing). covers lines p.line f (steps_between (edge_of lines p).v1 (first_end lines p)) p) (sym e)
        ∙ piece_covers lines p ok
    by_side Against e =
        ap (λ (n : ℕ). seg_covers lines vertices n s.side (steps_between (edge_of lines p).v1 (first_end lines p)) s) h.line
        ∙ ap (λ (n : ℕ). seg_covers lines vertices p.line n (steps_between (edge_of lines p).v1 (first_end lines p)) s) (h.side ∙ ap side_number e)
        ∙ covers_left lines vertices p.line (steps_between (edge_of lines p).v1 (first_end lines p)) p s h
        ∙ ap (λ (f : Facing). covers lines p.line f (steps_between (edge_of lines p).v1 (first_end lines p)) p) (sym e)
        ∙ piece_covers lines p ok
