use Rattle.std.proofs.Common.{refl}
use Rattle.run_canvas.specs.LossLaws.{none_lost}
use Rattle.run_canvas.specs.Waiting.{first_drawing}
use Rattle.run_canvas.proofs.project_canvas.ProjectCanvas.new.Goals as goal

pub returns-clause-settled : goal.returns-clause-settled
returns-clause-settled g c = λ last lost. none_lost g.D.Disk (first_drawing c.args.project) last refl lost
