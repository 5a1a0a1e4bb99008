use Rattle.std.proofs.Common.{◌≤◌, length, subst, All, arith}
use Rattle.std.proofs.lemmas.List.{take_all}
use Rattle.lump_records.specs.declared.records.Bounds.{Bounds}
use Rattle.tree_choice.specs.Blocks.{IsWithinBox}
use Rattle.tree_choice.proofs.BoxLemmas.{one_more_within}
use Rattle.tree_choice.proofs.block_boxes.joined_all.Goals as goal

pub loop-bounds-preserved : goal.loop-bounds-preserved
loop-bounds-preserved c =
    one_more_within c.loop-bounds.all c.joined-all.result c.args.boxes.now c.loop-bounds.bounds-index _ c.joined-all.ensures.first c.loop-bounds-test.true c.loop-bounds.invariant c.joined-all.ensures.second

pub returns : goal.returns
returns c =
    let over : length c.args.boxes.now ≤ c.loop-bounds.bounds-index = let t = c.loop-bounds-test.false in omega arith in
    subst (All (λ (a : Bounds). IsWithinBox a c.loop-bounds.all)) (take_all c.loop-bounds.bounds-index c.args.boxes.now over) c.loop-bounds.invariant
