use Rattle.std.proofs.Common.{map, ◌++◌, ap, ◌∙◌}
use Rattle.map_tables.specs.Faults.{uses_vertex}
use Rattle.map_checks.specs.declared.finding.Finding.TheVariants.{VertexUnused}
use Rattle.map_checks.specs.Tallies.{unmarked}
use Rattle.map_checks.proofs.MarkSteps.{unused_from_marks}
use Rattle.map_checks.proofs.unused.list_unused_vertices.Goals as goal

pub returns : goal.returns
returns c =
    let m = c.args.map.now.tables in
    c.in_ok-list_unmarked.ensures
    ∙ ap (λ ns. c.args.found.now.items ++ map (λ n. VertexUnused n) ns)
    (ap unmarked c.deref.ensures.value
    ∙ unused_from_marks uses_vertex m.vertices m.lines c.in_ok-used.used.items c.in_ok-used.ensures.marks)
