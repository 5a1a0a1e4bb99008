use Rattle.tree_pieces.proofs.Shares.{scaled_by}
use Rattle.tree_pieces.proofs.signs.scaled.Goals as goal

pub overflow_mul-result : goal.overflow_mul-result
overflow_mul-result c = (scaled_by c.args.share c.args.value c.ranges.share c.ranges.value c.requires.share c.requires.value).fits

pub returns-clause-value : goal.returns-clause-value
returns-clause-value c = (scaled_by c.args.share c.args.value c.ranges.share c.ranges.value c.requires.share c.requires.value).is

pub returns-clause-low : goal.returns-clause-low
returns-clause-low c = let s = scaled_by c.args.share c.args.value c.ranges.share c.ranges.value c.requires.share c.requires.value in rw s.is s.within.low

pub returns-clause-high : goal.returns-clause-high
returns-clause-high c = let s = scaled_by c.args.share c.args.value c.ranges.share c.ranges.value c.requires.share c.requires.value in rw s.is s.within.high
