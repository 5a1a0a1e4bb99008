use Rattle.std.proofs.Common.{◌∙◌, length, ap, arith}
use Rattle.map_tables.specs.Projects.{MapsView, project_of}
use Rattle.store_project.proofs.project.Project.begin_group.Goals as goal

pub returns-in-Ok-over-clause-begun : goal.returns-in-Ok-over-clause-begun
returns-in-Ok-over-clause-begun g c = record {
  lines = c.in-Ok-over.ensures.lines;
  accepted = ap (λ (m : MapsView). project_of m) c.in-Ok-over.ensures.maps ∙ c.in-Ok.ensures ∙ ap (λ (v : _). project_of v.maps) c.self.view_is;
  room = λ some. absurd (omega (arith, some, ap length c.in-Ok-over.ensures.lines.are));
}
