-- The lumps so far are written.
use Rattle.std.proofs.Common.{◌≡◌, take}
use Rattle.wad_file.specs.Listed.{ArePut, lumps_listed}
use Rattle.wad_file.proofs.list.write_lumps.Given as goal

abbrev pub invariant-loop-lump : goal.invariant-loop-lump
invariant-loop-lump g l =
    record {
      put : ArePut (g.S.Source.known_bytes l.fn.source) (lumps_listed (take l.lump-index l.lumps)) (g.W.Write.contents l.fn.writer) (g.W.Write.contents l.writer);
      stays : g.S.Source.known_bytes l.source ≡ g.S.Source.known_bytes l.fn.source;
    }
