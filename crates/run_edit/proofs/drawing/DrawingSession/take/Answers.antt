use Rattle.std.proofs.Common.{refl}
use Rattle.run_edit.specs.Answers.{RepliesInMemory}
use Rattle.run_edit.specs.Runs.{IsTrace}
use Rattle.run_edit.proofs.Going.{taken_alone}
use Rattle.run_edit.proofs.drawing.DrawingSession.take.Goals as goal

pub returns : goal.returns
returns g c = λ lines whole none front.
    taken_alone (RepliesInMemory 2007002) (IsTrace (RepliesInMemory 2007002)) (λ old new line text told. (new, told, refl)) c.answer_line.result c.args.self.now c.answer_line.new.drawing lines whole
    (g.W.Write.contents c.args.writer.now) (g.W.Write.contents c.answer_line.new.writer) none (c.answer_line.ensures whole front)
