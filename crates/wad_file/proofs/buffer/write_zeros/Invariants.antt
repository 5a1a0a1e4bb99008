-- The zeros so far are written.
use Rattle.std.proofs.Common.{◌*◌, replicate}
use Rattle.std.specs.Io.KnownBytes.{Appends}
use Rattle.wad_file.proofs.buffer.write_zeros.Given as goal

abbrev pub invariant-loop : goal.invariant-loop
invariant-loop g l = Appends (g.W.Write.contents l.fn.writer) (g.W.Write.contents l.writer) (replicate (8192 * l.counter) 0)
