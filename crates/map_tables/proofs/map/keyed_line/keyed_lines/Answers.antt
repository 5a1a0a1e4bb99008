-- The table has as many lines as were put into it.
use Rattle.std.proofs.Common.{◌∙◌, ap, length, take_all, arith}
use Rattle.std.proofs.lemmas.List.{length-take, length-map}
use Rattle.map_tables.specs.Keyed.{line_of}
use Rattle.map_tables.proofs.map.keyed_line.keyed_lines.Goals as goal

pub push-requires : goal.push-requires
push-requires c =
    omega (
      arith,
      ap length c.loop-line.invariant,
      length-map c.loop-line.table.items (line_of c.args.vertices.now.keys c.args.sides.now.keys),
      length-take c.loop-line.line-index c.args.lines.now,
      c.requires.few,
    )

pub returns-clause-lines : goal.returns-clause-lines
returns-clause-lines c = c.loop-line.invariant ∙ take_all c.loop-line.line-index c.args.lines.now (omega arith)
