use Rattle.std.proofs.Common.{[], ◌≤◌, ◌*◌, length, List, ℕ, Ok}
use Rattle.std.specs.Io.KnownBytes.{Consumes}
use Rattle.run_edit.specs.Runs.{Feeds, none_waits}
use Rattle.run_edit.proofs.reading.run_lines.Given as goal

-- some bytes have been read, and taken
abbrev pub invariant-loop : goal.invariant-loop
invariant-loop g l =
    (read : List ℕ)
    × record {
      none : g.S.Session.waits l.session l.waiting [];
      took : Consumes (g.R.Read.remaining l.fn.reader) (g.R.Read.remaining l.reader) read;
      turns : l.counter ≤ length read;
      few : l.answered ≤ 4096 * l.counter;
      short : length read ≤ 4096 * l.counter;
      fed :
          Feeds g.S.Session.goes none_waits (Ok l.answered) l.fn.session l.session [] [] read l.line
          (g.W.Write.contents l.fn.writer) (g.W.Write.contents l.writer);
    }
