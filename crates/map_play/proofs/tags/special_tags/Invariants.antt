use Rattle.std.proofs.Common.{take}
use Rattle.map_play.specs.Specials.{special_tag}
use Rattle.map_play.specs.Tags.{MarksTags}
use Rattle.map_play.proofs.tags.special_tags.Given as goal

abbrev pub invariant-loop-n : goal.invariant-loop-n
invariant-loop-n l = MarksTags (special_tag l.runs) (take l.n l.map.tables.lines) l.tags.items
