-- A box round all places is a box of the one block of a short list.
use Rattle.std.proofs.Common.{◌≡◌, subst, ℕ, zero, suc, ◌*◌, ◌<◌, ◌≤◌, sym, List, [], ◌∷◌, length, take, drop, Some, slice_get, arith, All}
use Rattle.std.proofs.lemmas.Int.{ints}
use Rattle.std.proofs.lemmas.List.{take_all}
use Rattle.std.proofs.lemmas.List.Elements.{All-nil, All-cons, All-head, All-tail}
use Rattle.std.specs.Prelude.{pos, neg_ℤ}
use Rattle.lump_records.specs.Drawing.{IsDrawable}
use Rattle.lump_records.specs.declared.records.Bounds.{Bounds}
use Rattle.lump_records.specs.declared.records.Vertex.{Vertex}
use Rattle.tree_pieces.specs.declared.edge.Edge.{Edge}
use Rattle.tree_pieces.specs.declared.piece.Piece.{Piece}
use Rattle.tree_pieces.specs.Plane.{IsEdge}
use Rattle.tree_pieces.specs.Pieces.{IsPiece, first_end, last_end}
use Rattle.tree_pieces.specs.Boxes.{IsWellIn, HoldsPiece}
use Rattle.tree_choice.specs.Blocks.{AreBlocks}
use Rattle.tree_choice.proofs.DrawnEnds.{first_drawn, last_drawn}

abbrev pub everywhere : Bounds
everywhere = record { top = pos 32767; bottom = neg_ℤ (pos 32768); left = neg_ℤ (pos 32768); right = pos 32767 }

well_in : (v : Vertex) → IsDrawable v → IsWellIn everywhere v
well_in v h =
    let xl = h.x_low in
    let xh = h.x_high in
    let yl = h.y_low in
    let yh = h.y_high in
    record { left = omega (arith, ints); right = omega (arith, ints); bottom = omega (arith, ints); top = omega (arith, ints) }

all_within : (lines : List Edge) (ps : List Piece) → All IsEdge lines → All (IsPiece lines) ps → All (HoldsPiece lines everywhere) ps
all_within lines [] drawn all = All-nil (HoldsPiece lines everywhere)
all_within lines (p ∷ ps) drawn all =
    let ok = All-head (IsPiece lines) p ps all in
    All-cons (HoldsPiece lines everywhere) p ps
    (record { first = well_in (first_end lines p) (first_drawn lines p drawn ok); last = well_in (last_end lines p) (last_drawn lines p drawn ok) })
    (all_within lines ps drawn (All-tail (IsPiece lines) p ps all))

pub one_block : (lines : List Edge) (ps : List Piece) → All IsEdge lines → All (IsPiece lines) ps → 0 < length ps → length ps ≤ 16 → AreBlocks lines ps (everywhere ∷ [])
one_block lines ps drawn all some few = record { enough = omega arith; each_needed = omega arith; holds = holds }
  where
    holds : (k : ℕ) (b : Bounds) → slice_get (everywhere ∷ []) k ≡ Some b → All (HoldsPiece lines b) (take 16 (drop (16 * k) ps))
    holds zero b h =
        let s : everywhere ≡ b = cc in
        subst (λ (x : Bounds). All (HoldsPiece lines x) (take 16 ps)) s
        (subst (All (HoldsPiece lines everywhere)) (sym (take_all 16 ps few)) (all_within lines ps drawn all))
    holds (suc k) b h = cc
