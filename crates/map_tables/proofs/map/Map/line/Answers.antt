-- What is true of each line of the map is true of this one.
use Rattle.std.proofs.Common.{◌≡◌, rules, arith}
use Rattle.std.specs.Prelude.{Some, slice_get}
use Rattle.map_tables.specs.Ranges.{IsLine}
use Rattle.map_tables.specs.WellFormed.{HasEnds, HasSides}
use Rattle.map_tables.specs.Keyed.{line_of, side_of}
use Rattle.map_tables.specs.MapFields.{tables_of}
use Rattle.map_tables.proofs.ListLemmas.{given_holds}
use Rattle.std.proofs.lemmas.List.{length-map}
use Rattle.map_tables.proofs.map.Map.line.Goals as goal

pub returns-clause-range : goal.returns-clause-range
returns-clause-range c =
    let there : slice_get c.self.inside.lines.items c.args.n ≡ Some c.in_ok-line.line = search rules in
    rw c.numbered_line.ensures
    (given_holds IsLine (line_of c.self.inside.vertices.keys c.self.inside.sides.keys) c.self.inside.lines.items c.args.n c.in_ok-line.line there c.self.invariant.lines)

pub returns-clause-ends : goal.returns-clause-ends
returns-clause-ends c =
    let there : slice_get c.self.inside.lines.items c.args.n ≡ Some c.in_ok-line.line = search rules in
    rw (← c.self.view_is, c.numbered_line.ensures)
    (given_holds (HasEnds c.self.inside.vertices.items) (line_of c.self.inside.vertices.keys c.self.inside.sides.keys) c.self.inside.lines.items c.args.n c.in_ok-line.line there c.self.invariant.ends)

pub returns-clause-sides : goal.returns-clause-sides
returns-clause-sides c =
    let there : slice_get c.self.inside.lines.items c.args.n ≡ Some c.in_ok-line.line = search rules in
    rw (← c.self.view_is, c.numbered_line.ensures)
    (given_holds (HasSides (tables_of c.self.inside).sides)
    (line_of c.self.inside.vertices.keys c.self.inside.sides.keys) c.self.inside.lines.items c.args.n c.in_ok-line.line there c.self.invariant.line_sides)

pub numbered_line-requires : goal.numbered_line-requires
numbered_line-requires c =
    record {
      vertices = c.self.invariant.vertex_count;
      sides = omega (arith, length-map c.self.inside.sides.items (side_of c.self.inside.sectors.keys), c.self.invariant.side_count);
    }
