use Rattle.std.proofs.Common.{arith, ◌≡◌, ◌∙◌, length}
use Rattle.std.proofs.lemmas.List.{with_items_is}
use Rattle.std.proofs.lemmas.Option.{slice_get-get_or}
use Rattle.tree_blocks.proofs.FillLemmas.{are_filed-more, are_filed-lists}
use Rattle.tree_blocks.proofs.fill.block_lists.Goals as goal

pub loop-number-preserved : goal.loop-number-preserved
loop-number-preserved c =
    let whole : length c.file_line.new.lists ≡ c.loop-number.lists.len = c.file_line.auto.lists ∙ c.deref_mut.ensures.len in
    let files = rw (c.deref_mut.ensures.value) at c.in_ok-file_line.ensures.ok in
    rw (with_items_is c.loop-number.lists c.file_line.new.lists whole)
    (are_filed-more c.args.lines.now c.args.grid c.loop-number.number _ c.loop-number.lists.items c.file_line.new.lists
    (slice_get-get_or c.args.lines.now c.loop-number.number _ c.loop-number-test.true) c.loop-number.invariant files)

pub returns-clause-lists : goal.returns-clause-lists
returns-clause-lists c =
    let e : c.loop-number.number ≡ length c.args.lines.now = omega (arith, c.loop-number-test.false, c.loop-number.auto.number-end) in
    are_filed-lists c.args.lines.now c.args.grid c.loop-number.lists.items (rw (← e) c.loop-number.invariant)
