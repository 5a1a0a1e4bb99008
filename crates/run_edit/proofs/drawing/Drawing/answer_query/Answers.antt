use Rattle.std.proofs.Common.{subst}
use Rattle.map_tables.specs.Projects.{ProjectMaps}
use Rattle.run_edit.specs.Queries.{WritesAnswer}
use Rattle.run_edit.proofs.drawing.Drawing.answer_query.Goals as goal

pub returns : goal.returns
returns g c =
    subst (λ (p : ProjectMaps). WritesAnswer c.write_answer.result p c.args.query (g.W.Write.contents c.args.writer.now) (g.W.Write.contents c.write_answer.new.writer))
    c.self.view_is c.write_answer.ensures
