-- The rounded ends of a piece lie where a vertex may.
use Rattle.std.proofs.Common.{All}
use Rattle.std.proofs.lemmas.List.Elements.{All-get_or}
use Rattle.std.specs.Prelude.{pos, neg_ℤ}
use Rattle.lump_records.specs.Drawing.{IsDrawable}
use Rattle.tree_pieces.specs.declared.edge.Edge.{Edge}
use Rattle.tree_pieces.specs.declared.frac.Frac.{Frac}
use Rattle.tree_pieces.specs.declared.piece.Piece.{Piece}
use Rattle.tree_pieces.specs.Plane.{IsEdge}
use Rattle.tree_pieces.specs.Fractions.{IsFraction, point_at}
use Rattle.tree_pieces.specs.Pieces.{IsPiece, edge_of, first_end, last_end}
use Rattle.tree_pieces.proofs.Rounding.{rounded_in}
use Rattle.std.specs.Prelude.{List}

point_drawn : (e : Edge) → IsEdge e → (t : Frac) → IsFraction t → IsDrawable (point_at e t)
point_drawn e d t f =
    let x = rounded_in (neg_ℤ (pos 16384)) (pos 16383) e.v1.x e.v2.x t f.positive f.at_least_zero f.at_most_one d.start.x_low d.end.x_low d.start.x_high d.end.x_high in
    let y = rounded_in (neg_ℤ (pos 16384)) (pos 16383) e.v1.y e.v2.y t f.positive f.at_least_zero f.at_most_one d.start.y_low d.end.y_low d.start.y_high d.end.y_high in
    record { x_low = x.0; x_high = x.1; y_low = y.0; y_high = y.1 }

pub first_drawn : (lines : List Edge) (p : Piece) → All IsEdge lines → IsPiece lines p → IsDrawable (first_end lines p)
first_drawn lines p drawn ok = point_drawn (edge_of lines p) (All-get_or IsEdge lines p.line _ ok.line_in drawn) p.from ok.from_in

pub last_drawn : (lines : List Edge) (p : Piece) → All IsEdge lines → IsPiece lines p → IsDrawable (last_end lines p)
last_drawn lines p drawn ok = point_drawn (edge_of lines p) (All-get_or IsEdge lines p.line _ ok.line_in drawn) p.to ok.to_in
