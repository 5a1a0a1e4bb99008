-- The next line is appended to those before it.
use Rattle.std.proofs.Common.{◌∙◌, ◌++◌, ◌∷◌, [], ap, arith, map, take_all}
use Rattle.map_tables.specs.Keyed.{line_of}
use Rattle.map_tables.proofs.ListLemmas.{map_next}
use Rattle.map_tables.proofs.map.keyed_line.numbered_lines.Goals as goal

pub loop-n-preserved : goal.loop-n-preserved
loop-n-preserved c =
    c.in_ok-push.ensures.items
    ∙ ap (λ l. c.loop-n.list.items ++ l ∷ []) c.numbered_line.ensures
    ∙ map_next (line_of c.args.vertices.now.keys c.args.sides.now.keys) c.args.lines.now.items c.loop-n.list.items c.loop-n.n c.at.result (omega arith) c.at.ensures c.loop-n.invariant

pub returns-clause-lines : goal.returns-clause-lines
returns-clause-lines c =
    c.loop-n.invariant ∙ ap (λ xs. map (line_of c.args.vertices.now.keys c.args.sides.now.keys) xs) (take_all c.loop-n.n c.args.lines.now.items (omega (arith, c.len-n-end.ensures)))
