-- The entries so far are written or held.
use Rattle.std.specs.Prelude.{flat_map, take}
use Rattle.std.specs.Io.KnownBytes.{Appends, append_known}
use Rattle.wad_file.specs.Listed.{listed_entry}
use Rattle.wad_file.proofs.list.write_entries.Given as goal

abbrev pub invariant-loop-lump : goal.invariant-loop-lump
invariant-loop-lump g l = Appends (g.W.Write.contents l.fn.writer) (append_known (g.W.Write.contents l.writer) l.buffer) (flat_map listed_entry (take l.lump-index l.lumps))
