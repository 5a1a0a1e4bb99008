use Rattle.std.proofs.Common.{take}
use Rattle.map_lint.specs.Tags.{line_tag}
use Rattle.map_play.specs.Tags.{MarksTags}
use Rattle.map_lint.proofs.tags.tags_of_lines.Given as goal

abbrev pub invariant-loop-n : goal.invariant-loop-n
invariant-loop-n l = MarksTags line_tag (take l.n l.map.tables.lines) l.tags.items
