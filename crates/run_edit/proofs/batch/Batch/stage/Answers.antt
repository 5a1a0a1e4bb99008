use Rattle.std.proofs.Common.{◌≡◌, refl}
use Rattle.run_edit.proofs.Waiting.{accepted_more, refused_more, same_waiting}
use Rattle.run_edit.proofs.batch.Batch.stage.Goals as goal

pub returns-in-Ok-Some-clause-waits : goal.returns-in-Ok-Some-clause-waits
returns-in-Ok-Some-clause-waits g c = λ lines whole waiting front is.
    accepted_more c.args.project.now c.args.self.now (record { group = c.stage.new.group; outcomes = c.push.new.self }) lines c.args.line.now whole waiting c.in-Ok-Some.number front c.requires.command
    c.push.ensures (rw c.in-Ok-Some.field-0-is at c.in-Ok-Some.ensures.ends) (rw c.in-Ok-Some.field-0-is at c.in-Ok-Some.ensures.can)

pub returns-in-Err-clause-waits : goal.returns-in-Err-clause-waits
returns-in-Err-clause-waits g c = λ lines whole waiting front is.
    refused_more c.args.project.now c.args.self.now (record { group = c.stage.new.group; outcomes = c.push-in-Err.new.self }) lines c.args.line.now whole waiting c.in-Err.error c.code.result c.code.ensures front c.requires.command
    c.push-in-Err.ensures c.in-Err.ensures.ends c.in-Err.ensures.can

pub returns-in-Ok-None-clause-same : goal.returns-in-Ok-None-clause-same
returns-in-Ok-None-clause-same g c = λ lines waiting is.
    same_waiting c.args.project.now c.args.self.now (record { group = c.stage.new.group; outcomes = c.args.self.now.outcomes }) lines c.args.line.now c.args.line.now waiting refl
    (rw c.in-Ok-None.field-0-is at c.in-Ok-None.ensures.ends) (rw c.in-Ok-None.field-0-is at c.in-Ok-None.ensures.can)
