use Rattle.std.proofs.Common.{map, take}
use Rattle.std.specs.Io.KnownBytes.{Appends}
use Rattle.lump_text.specs.Shown.{shown_byte}
use Rattle.lump_text.proofs.shown.write_whole.Given as goal

-- the bytes so far have been written
abbrev pub invariant-loop-byte : goal.invariant-loop-byte
invariant-loop-byte g l =
    Appends (g.W.Write.contents l.fn.writer) (g.W.Write.contents l.writer) (map shown_byte (take l.byte-index l.text))
