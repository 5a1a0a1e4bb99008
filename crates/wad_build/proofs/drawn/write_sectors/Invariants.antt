-- The sectors so far are written or held.
use Rattle.std.specs.Io.KnownBytes.{append_known}
use Rattle.lump_records.specs.Records.{sector_at, sector_record}
use Rattle.wad_build.proofs.CopyLemmas.{Encodes}
use Rattle.wad_build.proofs.drawn.write_sectors.Given as goal

abbrev pub invariant-loop-n : goal.invariant-loop-n
invariant-loop-n g l =
    Encodes sector_at sector_record 26 l.map.tables.sectors l.n (g.W.Write.contents l.fn.writer) (append_known (g.W.Write.contents l.writer) l.buffer)
