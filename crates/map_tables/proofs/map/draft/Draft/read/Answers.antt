-- The counts of the head say how long each part is, and the bytes are as long as they say.
use Rattle.std.proofs.Common.{arith}
use Rattle.map_tables.proofs.map.draft.Draft.read.Goals as goal

pub split_at-requires : goal.split_at-requires
split_at-requires c = c.requires.long

pub split_at-requires-2 : goal.split_at-requires-2
split_at-requires-2 c = omega arith

pub split_at-requires-3 : goal.split_at-requires-3
split_at-requires-3 c = omega arith

pub split_at-requires-4 : goal.split_at-requires-4
split_at-requires-4 c = omega arith

pub split_at-requires-5 : goal.split_at-requires-5
split_at-requires-5 c = omega arith

pub split_at-requires-6 : goal.split_at-requires-6
split_at-requires-6 c = omega arith
