-- The notes so far.
use Rattle.std.specs.Prelude.{take}
use Rattle.std.specs.Io.KnownBytes.{Appends}
use Rattle.map_dump.specs.Texts.{text_of}
use Rattle.cli_dump.specs.LevelDumps.{change_notes}
use Rattle.cli_dump.proofs.level_dumps.write_changes.Given as goal

abbrev pub invariant-loop-change : goal.invariant-loop-change
invariant-loop-change g l =
    Appends (g.E.Write.contents l.fn.errors) (g.E.Write.contents l.errors) (text_of (change_notes l.name (take l.change-index l.changes)))
