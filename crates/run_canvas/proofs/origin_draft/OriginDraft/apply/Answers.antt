use Rattle.std.proofs.Common.{◌∙◌, ◌≤◌, ap₂, map, sym, subst}
use Rattle.map_commands.specs.ProjectStep.{project_after}
use Rattle.map_commands.specs.declared.project.command.ProjectCommand.{ProjectCommand}
use Rattle.map_tables.specs.Projects.{ProjectMaps, body_len, project_of}
use Rattle.run_canvas.specs.OriginFields.{item_origins}
use Rattle.run_canvas.proofs.Origins.{each_committed}
use Rattle.run_canvas.proofs.origin_draft.OriginDraft.apply.Goals as goal

pub invariant_of-self-in-Ok-note : goal.invariant_of-self-in-Ok-note
invariant_of-self-in-Ok-note c =
    let old = project_of c.self.inside.maps in
    let mid = project_of c.ready.new.maps in
    let new = project_of c.commit.new.maps in
    let command = c.args.command.now in
    let accepted = c.in-Ok.accepted.command in
    record {
      fits = subst (λ (p : ProjectMaps). body_len p ≤ c.self.inside.cap)
          (sym (c.commit.ensures.project ∙ ap₂ (λ (p : ProjectMaps) (d : ProjectCommand). project_after p d) c.in-Ok.ensures.project c.in-Ok.ensures.same)) c.in-Ok.ensures.fits;
      each = each_committed old mid new (map item_origins c.self.inside.origins.items) (map item_origins c.note.new.origins.items) command accepted c.self.inside.place c.in-Ok.ensures.project
          c.in-Ok.ensures.same c.commit.ensures.project c.in-Ok-note.ensures.ok c.self.invariant.each;
    }
