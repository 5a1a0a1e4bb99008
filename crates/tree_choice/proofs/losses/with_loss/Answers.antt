use Rattle.std.proofs.Common.{◌≡◌, sym, subst, List, Option, All}
use Rattle.std.specs.Prelude.{IfSome}
use Rattle.lump_records.specs.Drawing.{IsDrawable}
use Rattle.tree_pieces.specs.declared.edge.Edge.{Edge}
use Rattle.tree_pieces.specs.declared.piece.Ends.{Ends}
use Rattle.tree_pieces.specs.declared.piece.Piece.{Piece}
use Rattle.tree_pieces.specs.Plane.{IsEdge}
use Rattle.tree_pieces.specs.Pieces.{IsPiece, ends_of}
use Rattle.tree_choice.specs.Losses.{IsRestOf}
use Rattle.tree_choice.proofs.DrawnEnds.{first_drawn, last_drawn}
use Rattle.tree_choice.proofs.losses.with_loss.Goals as goal
use Rattle.tree_choice.proofs.losses.with_loss.Goals.{In-Some}

-- the rounded ends of a piece are drawn
first_ok : (lines : List Edge) (p : Piece) (e : Ends) → e ≡ ends_of lines p → All IsEdge lines → IsPiece lines p → IsDrawable e.first
first_ok lines p e s d ok = subst (λ (x : Ends). IsDrawable x.first) (sym s) (first_drawn lines p d ok)

last_ok : (lines : List Edge) (p : Piece) (e : Ends) → e ≡ ends_of lines p → All IsEdge lines → IsPiece lines p → IsDrawable e.last
last_ok lines p e s d ok = subst (λ (x : Ends). IsDrawable x.last) (sym s) (last_drawn lines p d ok)

-- the rest of the piece
rest_of : (c : In-Some) → IsRestOf c.args.lines.now c.args.loss.now.piece c.in-Some.rest
rest_of c = subst (λ (o : Option Piece). IfSome o (IsRestOf c.args.lines.now c.args.loss.now.piece)) c.in-Some.is c.requires.loss.rest

pub with_places-requires-clause-first : goal.with_places-requires-clause-first
with_places-requires-clause-first c = first_ok _ _ _ c.ends_of-ends.ensures c.are_drawn.ensures c.requires.loss.piece

pub with_places-requires-clause-second : goal.with_places-requires-clause-second
with_places-requires-clause-second c = last_ok _ _ _ c.ends_of-ends.ensures c.are_drawn.ensures c.requires.loss.piece

pub with_places-requires-then-is_same_fraction-clause-first : goal.with_places-requires-then-is_same_fraction-clause-first
with_places-requires-then-is_same_fraction-clause-first c = last_ok _ _ _ c.ends_of-ends.ensures c.are_drawn.ensures c.requires.loss.piece

pub with_places-requires-then-is_same_fraction-clause-second : goal.with_places-requires-then-is_same_fraction-clause-second
with_places-requires-then-is_same_fraction-clause-second c =
    last_ok _ _ _ c.ends_of-left.ensures c.are_drawn.ensures (rest_of (goal.at.with_places-requires-then-is_same_fraction-clause-second c).In-Some).piece

pub with_places-requires-else-is_same_fraction-clause-first : goal.with_places-requires-else-is_same_fraction-clause-first
with_places-requires-else-is_same_fraction-clause-first c = first_ok _ _ _ c.ends_of-ends.ensures c.are_drawn.ensures c.requires.loss.piece

pub with_places-requires-else-is_same_fraction-clause-second : goal.with_places-requires-else-is_same_fraction-clause-second
with_places-requires-else-is_same_fraction-clause-second c =
    first_ok _ _ _ c.ends_of-left.ensures c.are_drawn.ensures (rest_of (goal.at.with_places-requires-else-is_same_fraction-clause-second c).In-Some).piece
