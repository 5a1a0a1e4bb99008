use Rattle.std.proofs.Common.{◌<◌, sym, ap, subst, length, arith}
use Rattle.std.proofs.lemmas.List.{length-map}
use Rattle.tree_pieces.specs.Edges.{edge_between}
use Rattle.tree_nodes.specs.Sound.{AllDiffer, IsWithinLimits}
use Rattle.tree_nodes.proofs.RangeLemmas.{all_differ, built_result, differ_result, never_nothing, refused_result}
use Rattle.tree_nodes.proofs.built.build_tree.Goals as goal

pub returns-clause-built : goal.returns-clause-built
returns-clause-built c =
    built_result c.args.map.now.tables c.in-Ok.lines c.in-Ok-new.points c.number_over.result c.in-Ok.ensures.edges c.in-Ok-new.ensures.drawn c.number_over.ensures.built

pub returns-clause-differ : goal.returns-clause-differ
returns-clause-differ c =
    differ_result c.in-Ok-new.points c.in-Ok.lines c.number_over.result
    (subst AllDiffer (sym c.in-Ok-new.ensures.drawn) (all_differ c.args.map.now.tables.vertices c.count.ensures.well_formed.places))
    c.number_over.ensures.built

pub returns-clause-refused : goal.returns-clause-refused
returns-clause-refused c =
    refused_result c.args.map.now.tables c.in-Ok.lines c.in-Ok-new.points c.number_over.result
    c.in-Ok.ensures.edges c.in-Ok-new.ensures.drawn c.number_over.ensures.refused

pub returns-clause-nothing : goal.returns-clause-nothing
returns-clause-nothing c =
    let m = c.args.map.now.tables in
    let some : 0 < length m.lines = omega (arith, c.if-count-eq0.false, c.count.ensures.number) in
    let l = ap length c.in-Ok.ensures.edges in
    let n = length-map m.lines (edge_between m.vertices) in
    (λ e. absurd (never_nothing c.in-Ok.lines c.in-Ok-new.points c.number_over.result (omega (arith, l, n, some)) c.number_over.ensures.refused e), λ z. absurd (omega (arith, some, z)))

pub returns-clause-last : goal.returns-clause-last
returns-clause-last c = λ h. subst IsWithinLimits c.in-Ok.ensures.edges (c.number_over.ensures.last h)
