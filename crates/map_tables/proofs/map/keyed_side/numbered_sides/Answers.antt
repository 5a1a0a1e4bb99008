-- The next side is appended to those before it.
use Rattle.std.proofs.Common.{◌∙◌, ◌++◌, ◌∷◌, [], ap, arith, map, take_all}
use Rattle.map_tables.specs.Keyed.{side_of}
use Rattle.map_tables.proofs.ListLemmas.{map_next}
use Rattle.map_tables.proofs.map.keyed_side.numbered_sides.Goals as goal

pub loop-n-preserved : goal.loop-n-preserved
loop-n-preserved c =
    c.in_ok-push.ensures.items
    ∙ ap (λ s. c.loop-n.list.items ++ s ∷ []) c.numbered_side.ensures
    ∙ map_next (side_of c.args.sectors.now.keys) c.args.sides.now.items c.loop-n.list.items c.loop-n.n c.at.result (omega arith) c.at.ensures c.loop-n.invariant

pub returns-clause-sides : goal.returns-clause-sides
returns-clause-sides c =
    c.loop-n.invariant ∙ ap (λ xs. map (side_of c.args.sectors.now.keys) xs) (take_all c.loop-n.n c.args.sides.now.items (omega (arith, c.len-n-end.ensures)))
