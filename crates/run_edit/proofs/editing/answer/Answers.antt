use Rattle.run_edit.proofs.RunCalls.{line_in_doubt, line_kept, line_moments}
use Rattle.run_edit.proofs.editing.answer.Goals as goal

pub returns-clause-answered : goal.returns-clause-answered
returns-clause-answered g c = c.answer_line.ensures c.args.line.now c.front.ensures

pub returns-clause-any_moment : goal.returns-clause-any_moment
returns-clause-any_moment g c = λ ready.
    let told = c.answer_line.ensures c.args.line.now c.front.ensures in
    line_moments g.D.Disk g.met.D.Disk.counts_now g.met.D.Disk.only_now
    c.args.project.now c.answer_line.new.project c.args.line.now told.0 told.1 c.must_reopen.ensures.kept ready

pub returns-clause-kept : goal.returns-clause-kept
returns-clause-kept g c =
    let told = c.answer_line.ensures c.args.line.now c.front.ensures in
    line_kept g.D.Disk
    c.args.project.now c.answer_line.new.project c.args.line.now told.0 told.1 c.must_reopen.ensures.kept

pub returns-clause-in_doubt : goal.returns-clause-in_doubt
returns-clause-in_doubt g c = λ ready reopen.
    let told = c.answer_line.ensures c.args.line.now c.front.ensures in
    line_in_doubt g.D.Disk g.met.D.Disk.counts_now
    c.args.project.now c.answer_line.new.project c.args.line.now told.0 told.1 ready reopen
