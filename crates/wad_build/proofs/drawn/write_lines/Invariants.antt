-- The lines so far are written or held.
use Rattle.std.specs.Io.KnownBytes.{append_known}
use Rattle.lump_records.specs.Records.{line_at, line_record}
use Rattle.wad_build.proofs.CopyLemmas.{Encodes}
use Rattle.wad_build.proofs.drawn.write_lines.Given as goal

abbrev pub invariant-loop-n : goal.invariant-loop-n
invariant-loop-n g l =
    Encodes line_at line_record 14 l.map.tables.lines l.n (g.W.Write.contents l.fn.writer) (append_known (g.W.Write.contents l.writer) l.buffer)
