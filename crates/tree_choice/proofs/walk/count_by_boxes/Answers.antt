use Rattle.tree_choice.proofs.walk.count_by_boxes.Goals as goal

pub returns-then-pieces-le-BLOCK-clause-counts : goal.returns-then-pieces-le-BLOCK-clause-counts
returns-then-pieces-le-BLOCK-clause-counts c = rw (c.of-by.ensures.lines, c.of-by.ensures.piece) at c.count_list.ensures

pub returns-then-len-ne0-clause-counts : goal.returns-then-len-ne0-clause-counts
returns-then-len-ne0-clause-counts c = rw (c.of-by.ensures.lines, c.of-by.ensures.piece) at c.count_by_ends.ensures.counts

pub returns-clause-counts : goal.returns-clause-counts
returns-clause-counts c = rw (c.of-by.ensures.lines, c.of-by.ensures.piece) at c.count_open.ensures
