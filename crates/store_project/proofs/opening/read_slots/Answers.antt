use Rattle.std.proofs.Common.{◌∙◌, ◌≤◌, ℕ, List, Err, ap, sym, subst}
use Rattle.map_tables.specs.Projects.{project_of}
use Rattle.map_tables.specs.ProjectBody.{IsProjectOf, RefusesProject}
use Rattle.store_project.specs.Places.{which_parts}
use Rattle.store_project.specs.declared.places.Parts.{Parts}
use Rattle.store_project.proofs.Openings.{slots_refused, body_refused, holds, map_fits}
use Rattle.store_project.proofs.opening.read_slots.Goals as goal

pub returns-in-Err-clause-refused : goal.returns-in-Err-clause-refused
returns-in-Err-clause-refused g c =
    slots_refused
    (g.D.Disk.reads c.args.disk.now) c.args.geometry c.args.places c.in-Err.error c.refusal_of_slots.result c.refusal_of_slots.ensures c.in-Err.ensures.no_other c.in-Err.ensures.damaged (λ e. c.in-Err.ensures.blank (ap Err e))

pub returns-in-Ok-read_body-clause-holds : goal.returns-in-Ok-read_body-clause-holds
returns-in-Ok-read_body-clause-holds g c =
    let r = c.in-Ok.live in
    holds (g.D.Disk.reads c.args.disk.now) c.args.geometry c.args.places r.0 r.1.body.items
    (project_of c.read_body.new.self) c.requires.allowed c.requires.laid_out c.in-Ok.ensures.areas.0 c.in-Ok.ensures.areas.1
    c.in-Ok.ensures.sound (subst (λ (x : List ℕ). IsProjectOf x (project_of c.read_body.new.self)) c.deref.ensures.value c.in-Ok-read_body.ensures.project)

pub returns-in-Ok-read_body-clause-fits : goal.returns-in-Ok-read_body-clause-fits
returns-in-Ok-read_body-clause-fits g c =
    let r = c.in-Ok.live in
    map_fits c.args.geometry c.args.places r.0 r.1.body.items (project_of c.read_body.new.self) c.requires.laid_out c.in-Ok.ensures.areas.0 c.in-Ok.ensures.areas.1
    c.in-Ok.ensures.fits (subst (λ (x : List ℕ). IsProjectOf x (project_of c.read_body.new.self)) c.deref.ensures.value c.in-Ok-read_body.ensures.project)

pub returns-clause-refused : goal.returns-clause-refused
returns-clause-refused g c =
    let r = c.in-Ok.live in
    body_refused (g.D.Disk.reads c.args.disk.now) c.args.geometry c.args.places r.0 r.1.body.items c.requires.allowed c.requires.laid_out c.in-Ok.ensures.areas.0 c.in-Ok.ensures.areas.1
    (subst (λ (n : ℕ). n ≤ 1) (sym c.in-Ok.ensures.tells.0) c.in-Ok.ensures.which) c.in-Ok.ensures.sound c.parts.result.live.base
    (ap (λ (q : Parts). q.live.base) (c.parts.ensures ∙ ap (which_parts c.args.places) (sym c.in-Ok.ensures.tells.0)))
    c.in-Err-read_body.error c.refusal_of_body.result c.refusal_of_body.ensures
    (subst (λ (x : List ℕ).
    RefusesProject x c.in-Err-read_body.error) c.deref.ensures.value c.in-Err-read_body.ensures.refused)
