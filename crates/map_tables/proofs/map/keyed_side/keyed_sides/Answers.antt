-- The table has as many sides as were put into it.
use Rattle.std.proofs.Common.{◌∙◌, ap, length, take_all, arith}
use Rattle.std.proofs.lemmas.List.{length-take, length-map}
use Rattle.map_tables.specs.Keyed.{side_of}
use Rattle.map_tables.proofs.map.keyed_side.keyed_sides.Goals as goal

pub push-requires : goal.push-requires
push-requires c =
    omega (arith, ap length c.loop-side.invariant, length-map c.loop-side.table.items (side_of c.args.sectors.now.keys), length-take c.loop-side.side-index c.args.sides.now, c.requires.few)

pub returns-clause-sides : goal.returns-clause-sides
returns-clause-sides c = c.loop-side.invariant ∙ take_all c.loop-side.side-index c.args.sides.now (omega arith)
