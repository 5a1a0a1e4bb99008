use Rattle.std.proofs.Common.{map, take}
use Rattle.std.specs.Io.KnownBytes.{Appends}
use Rattle.cli_print.specs.ShownNames.{shown}
use Rattle.cli_print.proofs.shown_names.write_shown.Given as goal

-- the bytes so far have been written
abbrev pub invariant-loop-byte : goal.invariant-loop-byte
invariant-loop-byte g l =
    Appends (g.W.Write.contents l.fn.writer) (g.W.Write.contents l.writer) (map shown (take l.byte-index l.name))
