-- The sides so far are written or held.
use Rattle.std.specs.Io.KnownBytes.{append_known}
use Rattle.lump_records.specs.Records.{side_at, side_record}
use Rattle.wad_build.proofs.CopyLemmas.{Encodes}
use Rattle.wad_build.proofs.drawn.write_sides.Given as goal

abbrev pub invariant-loop-n : goal.invariant-loop-n
invariant-loop-n g l =
    Encodes side_at side_record 30 l.map.tables.sides l.n (g.W.Write.contents l.fn.writer) (append_known (g.W.Write.contents l.writer) l.buffer)
