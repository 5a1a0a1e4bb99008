use Rattle.std.proofs.Common.{◌≤◌, [], ℕ, List, take, Ok}
use Rattle.run_edit.specs.Lines.{IsBegun}
use Rattle.run_edit.specs.Runs.{Feeds}
use Rattle.run_edit.proofs.reading.feed.Given as goal

-- the bytes so far have been taken
abbrev pub invariant-loop-b : goal.invariant-loop-b
invariant-loop-b g l =
    record {
      few : l.answered ≤ l.b-index;
      some : (lines : List (List ℕ)) × g.S.Session.waits l.session l.waiting lines;
      fed :
          (part : List ℕ) → IsBegun l.fn.line part
          → Feeds g.S.Session.goes (g.S.Session.waits l.session l.waiting) (Ok l.answered) l.fn.session l.session [] part
          (take l.b-index l.bytes) l.line (g.W.Write.contents l.fn.writer) (g.W.Write.contents l.writer);
    }
