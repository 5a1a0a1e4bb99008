-- The things so far are written or held.
use Rattle.std.specs.Io.KnownBytes.{append_known}
use Rattle.lump_records.specs.Records.{thing_at, thing_record}
use Rattle.wad_build.proofs.CopyLemmas.{Encodes}
use Rattle.wad_build.proofs.drawn.write_things.Given as goal

abbrev pub invariant-loop-n : goal.invariant-loop-n
invariant-loop-n g l =
    Encodes thing_at thing_record 10 l.map.tables.things l.n (g.W.Write.contents l.fn.writer) (append_known (g.W.Write.contents l.writer) l.buffer)
