use Rattle.std.proofs.Common.{◌≡◌, [], None, List, ℕ, refl, sym, subst}
use Rattle.std.specs.Prelude.{Option}
use Rattle.run_edit.specs.Composing.{goes_behind, goes_none}
use Rattle.run_edit.specs.Groups.{Waits}
use Rattle.run_edit.specs.Runs.{none_waits}
use Rattle.run_edit.specs.Sessions.{GoesOver}
use Rattle.run_edit.specs.declared.batch.Batch.{Batch}
use Rattle.run_edit.proofs.Going.{nothing}
use Rattle.run_edit.proofs.project_run.ProjectSession.settle.Goals as goal

pub returns-in-None-clause-taken : goal.returns-in-None-clause-taken
returns-in-None-clause-taken g c = λ lines wait.
    nothing (GoesOver g.D.Disk) (goes_behind g.D.Disk) none_waits (tt {0}) c.args.self.now lines (g.W.Write.contents c.args.writer.now) (goes_none g.D.Disk c.args.self.now)
    (subst (λ (w : Option Batch). Waits c.args.self.now w lines) c.in-None.is wait)
