use Rattle.run_edit.proofs.RunCalls.{runs_over}
use Rattle.run_edit.proofs.project_run.run.Goals as goal

pub returns : goal.returns
returns g c =
    let ran = c.run_lines.ensures in
    let went = ran.1.in_turn in (
      ran.0,
      record {
        read = ran.1.read;
        took = ran.1.took;
        few = ran.1.few;
        whole = ran.1.whole;
        in_turn = went.told;
        ends = ran.1.ends;
      },
      runs_over g.D.Disk g.met.D.Disk.counts_now g.met.D.Disk.only_now ran.0
          c.args.project.now c.run_lines.new.session went c.must_reopen.ensures.kept,
    )
