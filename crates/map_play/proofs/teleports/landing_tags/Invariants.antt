use Rattle.std.proofs.Common.{take}
use Rattle.map_play.specs.Tags.{MarksTags}
use Rattle.map_play.specs.Teleports.{landing_tag}
use Rattle.map_play.proofs.teleports.landing_tags.Given as goal

abbrev pub invariant-loop-n : goal.invariant-loop-n
invariant-loop-n l = MarksTags (landing_tag l.map.tables) (take l.n l.map.tables.things) l.tags.items
