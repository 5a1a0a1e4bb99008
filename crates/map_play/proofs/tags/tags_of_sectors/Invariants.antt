use Rattle.std.proofs.Common.{take}
use Rattle.map_play.specs.Tags.{tag_of}
use Rattle.map_play.specs.Tags.{MarksTags}
use Rattle.map_play.proofs.tags.tags_of_sectors.Given as goal

abbrev pub invariant-loop-n : goal.invariant-loop-n
invariant-loop-n l = MarksTags tag_of (take l.n l.map.tables.sectors) l.tags.items
