use Rattle.std.proofs.Common.{◌≡◌, [], false, length, List, ℕ, Ok}
use Rattle.std.specs.List.{list_any}
use Rattle.std.specs.Io.KnownBytes.{Consumes}
use Rattle.run_edit.specs.Lines.{whole_lines}
use Rattle.run_edit.specs.Runs.{Feeds, IsTrace, none_waits}
use Rattle.cli_requests.specs.Typing.{RepliesTyped, quits}
use Rattle.cli_requests.proofs.typing.run_typed.Given as goal

-- some bytes have been read, and no line of them ended the session
abbrev pub invariant-loop : goal.invariant-loop
invariant-loop g l =
    (read : List ℕ) × (n : ℕ)
    × record {
      took : Consumes (g.R.Read.remaining l.fn.reader) (g.R.Read.remaining l.reader) read;
      size : length read ≡ l.counter;
      none : list_any quits (whole_lines read) ≡ false;
      fed :
          Feeds (IsTrace (RepliesTyped g.P.Spoken.answers)) none_waits (Ok n) l.fn.partner l.partner [] [] read l.line
          (g.W.Write.contents l.fn.writer) (g.W.Write.contents l.writer);
    }
