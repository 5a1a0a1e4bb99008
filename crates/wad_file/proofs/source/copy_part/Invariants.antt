-- The bytes so far are copied.
use Rattle.std.proofs.Common.{◌≡◌, ◌*◌, length}
use Rattle.wad_file.specs.Placed.{IsCopied}
use Rattle.wad_file.proofs.source.copy_part.Given as goal

abbrev pub invariant-loop-k : goal.invariant-loop-k
invariant-loop-k g l =
    record {
      copied : IsCopied (g.S.Source.known_bytes l.fn.source) l.fn.at (8192 * l.k) (g.W.Write.contents l.fn.writer) (g.W.Write.contents l.writer);
      long : length l.buffer ≡ 8192;
      stays : g.S.Source.known_bytes l.source ≡ g.S.Source.known_bytes l.fn.source;
    }
