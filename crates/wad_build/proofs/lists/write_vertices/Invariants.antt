-- The vertices so far are written or held.
use Rattle.std.specs.Io.KnownBytes.{append_known}
use Rattle.lump_records.specs.Records.{vertex_at, vertex_record}
use Rattle.wad_build.proofs.CopyLemmas.{Encodes}
use Rattle.wad_build.proofs.lists.write_vertices.Given as goal

abbrev pub invariant-loop-n : goal.invariant-loop-n
invariant-loop-n g l =
    Encodes vertex_at vertex_record 4 l.vertices l.n (g.W.Write.contents l.fn.writer) (append_known (g.W.Write.contents l.writer) l.buffer)
