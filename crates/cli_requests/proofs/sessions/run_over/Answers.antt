use Rattle.run_edit.proofs.RunCalls.{runs_over}
use Rattle.run_edit.proofs.Traces.{trace_goes}
use Rattle.cli_requests.specs.Typing.{but_help}
use Rattle.cli_requests.proofs.sessions.run_over.Goals as goal

pub returns : goal.returns
returns g c =
    let ran = c.run_typed.ensures in
    let old = c.args.project.now in
    let new = c.run_typed.new.partner in (
      ran.0,
      ran.1,
      runs_over g.D.Disk g.met.D.Disk.counts_now g.met.D.Disk.only_now (but_help ran.0) old new
          (trace_goes g.D.Disk g.met.D.Disk.counts_now (but_help ran.0) old new ran.1.in_turn) c.must_reopen.ensures.kept,
    )
