use Rattle.std.proofs.Common.{◌≡◌, ap, subst}
use Rattle.tree_pieces.specs.declared.edge.Edge.{Edge}
use Rattle.tree_pieces.specs.declared.piece.Ends.{Ends}
use Rattle.tree_pieces.specs.Plane.{IsEdge}
use Rattle.tree_pieces.specs.Pieces.{edge_of, first_end, last_end}
use Rattle.tree_nodes.proofs.Distances.{along_angle, against_angle, from_start, from_end}
use Rattle.tree_nodes.proofs.shape.shape_of.Goals as goal
use Rattle.tree_nodes.proofs.shape.shape_of.Goals.{After-ends_of-ends}

-- what is known of the line and of the ends
record Known (c : After-ends_of-ends) : Type 0 where
  line : IsEdge (edge_of c.args.lines.now c.args.piece.now)
  v1 : c.line_of-edge.result.v1 ≡ (edge_of c.args.lines.now c.args.piece.now).v1
  v2 : c.line_of-edge.result.v2 ≡ (edge_of c.args.lines.now c.args.piece.now).v2
  first : c.ends_of-ends.result.first ≡ first_end c.args.lines.now c.args.piece.now
  last : c.ends_of-ends.result.last ≡ last_end c.args.lines.now c.args.piece.now

known : (c : After-ends_of-ends) → Known c
known c = record {
  line = subst IsEdge c.line_of-edge.ensures.line c.line_of-edge.ensures.drawn;
  v1 = ap (λ (e : Edge). e.v1) c.line_of-edge.ensures.line;
  v2 = ap (λ (e : Edge). e.v2) c.line_of-edge.ensures.line;
  first = ap (λ (e : Ends). e.first) c.ends_of-ends.ensures;
  last = ap (λ (e : Ends). e.last) c.ends_of-ends.ensures;
}

pub offset-requires : goal.offset-requires
offset-requires c =
    let k = known (goal.at.offset-requires c).After-ends_of-ends in
    rw (k.v1, k.first) (from_start (edge_of c.args.lines.now c.args.piece.now) c.args.piece.now.from k.line c.requires.piece.from_in)

pub offset-requires-in-Against : goal.offset-requires-in-Against
offset-requires-in-Against c =
    let k = known (goal.at.offset-requires-in-Against c).After-ends_of-ends in
    rw (k.v2, k.last) (from_end (edge_of c.args.lines.now c.args.piece.now) c.args.piece.now.to k.line c.requires.piece.to_in)

pub returns-in-Along-clause-angle : goal.returns-in-Along-clause-angle
returns-in-Along-clause-angle c = along_angle c.args.lines.now c.args.angles.now c.args.piece.now c.requires.angles c.requires.piece.line_in c.in-Along.is

pub returns-in-Against-clause-angle : goal.returns-in-Against-clause-angle
returns-in-Against-clause-angle c =
    let k = known (goal.at.returns-in-Against-clause-angle c).After-ends_of-ends in
    against_angle c.args.lines.now c.args.angles.now c.args.piece.now _ c.requires.angles c.requires.piece.line_in k.line c.in-Against.is c.reversed_angle.ensures
