-- The buffer keeps its length, and a read that was interrupted takes nothing from the reader.
use Rattle.std.specs.Prelude.{◌≡◌, length}
use Rattle.std.specs.Io.KnownBytes.{Keeps}
use Rattle.run_edit.proofs.retrying.read_retrying.Given as goal

abbrev pub invariant-loop : goal.invariant-loop
invariant-loop g l = (length l.buffer ≡ length l.initial.buffer) × Keeps (g.R.Read.remaining l.initial.reader) (g.R.Read.remaining l.reader)
