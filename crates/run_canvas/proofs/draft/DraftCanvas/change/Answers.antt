use Rattle.std.proofs.Common.{ℕ, Result, ap, subst, sym}
use Rattle.run_edit.specs.Answers.{ChangesBy, outcome_of}
use Rattle.map_tables.specs.Projects.{ProjectMaps, project_of}
use Rattle.map_commands.specs.ProjectReadiness.{EndsStep}
use Rattle.map_commands.specs.ProjectStep.{step}
use Rattle.run_edit.proofs.Answering.{tried}
use Rattle.run_canvas.specs.Canvases.{Drafted}
use Rattle.run_canvas.proofs.draft.DraftCanvas.change.Goals as goal

pub returns : goal.returns
returns c =
    let old = c.args.self.now in
    let new = project_of c.apply.new.maps in
    let line = c.args.line.now in
    let cap = ap (λ (d : Drafted). d.cap) c.self.view_is in
    let ends = subst (λ (p : ProjectMaps). EndsStep c.apply.result (step p c.in-Ok.command c.self.inside.cap) p new) (ap (λ (d : Drafted). d.maps) c.self.view_is)
    c.apply.ensures.ends in
    let changes = tried c.self.inside.cap old.maps new line c.in-Ok.command c.self.inside.maps.spare c.apply.result c.in-Ok.ensures.ok.1 c.in-Ok.ensures.ok.0
    c.in-Ok.ensures.fault ends c.apply.ensures.promised in (
      subst (λ (outcome : Result ℕ ℕ). ChangesBy old.cap old.maps line outcome new) (sym c.outcome_of.ensures)
          (subst (λ (n : ℕ). ChangesBy n old.maps line (outcome_of c.apply.result) new) cap changes),
      cap,
    )
