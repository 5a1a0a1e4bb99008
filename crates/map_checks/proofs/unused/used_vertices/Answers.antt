use Rattle.std.proofs.Common.{eqb, ◌||◌, sym, ◌∙◌, arith}
use Rattle.map_tables.specs.Faults.{uses_vertex}
use Rattle.map_tables.specs.WellFormed.{HasEnds}
use Rattle.map_checks.proofs.ItemReads.{at_some, is_there}
use Rattle.map_checks.proofs.MarkSteps.{marks_two}
use Rattle.map_checks.proofs.unused.used_vertices.Goals as goal

pub unwrap-line-requires : goal.unwrap-line-requires
unwrap-line-requires c = is_there c.args.map.now.tables.lines c.loop-n.n _ c.line.ensures.item (omega arith)

pub loop-n-preserved : goal.loop-n-preserved
loop-n-preserved c =
    let m = c.args.map.now.tables in
    let ends = at_some (HasEnds m.vertices) c.unwrap-line.result c.unwrap-line.ensures c.line.ensures.ends in
    marks_two uses_vertex m.vertices m.lines c.loop-n.n c.unwrap-line.result (sym c.line.ensures.item ∙ c.unwrap-line.ensures)
    c.loop-n.used.items c.loop-n.invariant c.from.result c.from-in-loop-n.result
    (omega (arith, ends.v1, c.from.ensures)) (omega (arith, ends.v2, c.from-in-loop-n.ensures))
    (λ k i. eqb (sym c.from.ensures i) k || eqb (sym c.from-in-loop-n.ensures i) k)
