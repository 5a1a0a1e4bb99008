use Rattle.std.proofs.Common.{◌∙◌, ◌<◌, ◌≤◌, sym, length, arith}
use Rattle.std.proofs.lemmas.List.{get_or_default}
use Rattle.lump_records.specs.declared.records.Node.{Node}
use Rattle.wad_levels.specs.Views.{view}
use Rattle.wad_build.proofs.FirstLemmas.{child_wrong, child_more, child_none, no_node}
use Rattle.wad_build.proofs.children.child_place.Goals as goal

pub returns-then-not-has_children : goal.returns-then-not-has_children
returns-then-not-has_children c =
    let nodes = c.args.level.now.nodes.items in
    let below : c.loop-n.n < length nodes = omega (arith, c.loop-n-test.true, c.len-n-end.ensures) in
    child_wrong (view c.args.level.now) c.loop-n.n c.index.result.now below (sym c.index.ensures) c.loop-n.invariant (sym c.has_children.ensures ∙ c.if-not-has_children.true)

pub loop-n-preserved : goal.loop-n-preserved
loop-n-preserved c =
    let nodes = c.args.level.now.nodes.items in
    let below : c.loop-n.n < length nodes = omega (arith, c.loop-n-test.true, c.len-n-end.ensures) in
    let is = λ (d : Node). get_or_default nodes c.loop-n.n d c.index.result.now below ∙ sym c.index.ensures in
    child_more (view c.args.level.now) c.loop-n.n c.index.result.now below is c.loop-n.invariant (sym c.has_children.ensures ∙ c.if-not-has_children.false)

pub returns : goal.returns
returns c =
    let below : length c.args.level.now.nodes.items ≤ c.loop-n.n = omega (arith, c.loop-n-test.false, c.len-n-end.ensures) in
    child_none (view c.args.level.now) c.loop-n.n no_node below c.loop-n.invariant
