use Rattle.std.proofs.Common.{◌≡◌, ◌∙◌, [], ap, sym, subst}
use Rattle.store_disk.specs.Moments.{LeavesOnly}
use Rattle.store_disk.specs.Stops.{Follows, From}
use Rattle.store_journal.specs.State as journal
use Rattle.store_slots.specs.Handles.{body_in, generation_of}
use Rattle.map_tables.specs.ProjectBody.{project_body}
use Rattle.map_tables.specs.Projects.{WellFormedProject, project_of}
use Rattle.store_project.specs.Fields.{parts_in}
use Rattle.store_project.specs.Places.{cap_of, which_parts}
use Rattle.store_project.specs.Stands.{StandsFor}
use Rattle.store_project.specs.Turns.{MayTurn, Turns}
use Rattle.store_project.specs.declared.places.Parts.{Parts}
use Rattle.store_project.proofs.Sound.{body_fits, is_kept, sound_turned, turn_moments}
use Rattle.store_project.proofs.project.Project.turn_to.Goals as goal

pub turn-requires-clause-fits : goal.turn-requires-clause-fits
turn-requires-clause-fits g c =
    let p = c.self.inside in
    body_fits g.D.Disk p c.self.invariant.framed (body_in c.args.image.now)
    (subst (λ (v : _). body_in c.args.image.now ≡ project_body (project_of v.maps)) (sym c.self.view_is) c.requires.body)
    (subst (λ (v : _). WellFormedProject (project_of v.maps)) (sym c.self.view_is) c.requires.well_formed)

pub invariant_of-self : goal.invariant_of-self
invariant_of-self g c =
    let p = c.self.inside in
    let framed = c.self.invariant.framed in
    let ready = c.self.invariant.ready (ap (λ (v : _). v.must_reopen) c.self.view_is ∙ c.requires.ready) in
    let is : body_in c.args.image.now ≡ project_body (project_of p.maps) = subst (λ (v : _). body_in c.args.image.now ≡ project_body (project_of v.maps)) (sym c.self.view_is) c.requires.body in
    let formed : WellFormedProject (project_of p.maps) = subst (λ (v : _). WellFormedProject (project_of v.maps)) (sym c.self.view_is) c.requires.well_formed in
    let parts : c.parts-parts.result ≡ parts_in p = c.parts-parts.ensures ∙ ap (which_parts p.places) c.slot.ensures in
    sound_turned g.D.Disk p framed ready c.turn.new.disk c.in-Ok.slots c.fresh.result (body_in c.args.image.now) is formed
    (subst (λ (q : Parts). Follows (Turns (cap_of p.geometry) (generation_of p.slots) q (body_in c.args.image.now))
    (g.D.Disk.may_leave p.disk) (g.D.Disk.may_leave c.turn.new.disk)) parts
    (c.in-Ok.ensures.turned (cap_of p.geometry)))
    c.in-Ok.ensures.ready c.in-Ok.ensures.areas c.in-Ok.ensures.slot c.in-Ok.ensures.generation
    (c.fresh.ensures.empty ∙ ap (λ (q : Parts). journal.opened q.other_journal []) parts) c.fresh.ensures.ready

pub returns-in-Ok-clause-kept : goal.returns-in-Ok-clause-kept
returns-in-Ok-clause-kept g c =
    let sound = invariant_of-self g c in
    is_kept g.D.Disk _ sound.framed sound.ready

pub returns-in-Ok-clause-any_moment : goal.returns-in-Ok-clause-any_moment
returns-in-Ok-clause-any_moment g c =
    let p = c.self.inside in
    let framed = c.self.invariant.framed in
    let ready = c.self.invariant.ready (ap (λ (v : _). v.must_reopen) c.self.view_is ∙ c.requires.ready) in
    let is : body_in c.args.image.now ≡ project_body (project_of p.maps) = subst (λ (v : _). body_in c.args.image.now ≡ project_body (project_of v.maps)) (sym c.self.view_is) c.requires.body in
    let formed : WellFormedProject (project_of p.maps) = subst (λ (v : _). WellFormedProject (project_of v.maps)) (sym c.self.view_is) c.requires.well_formed in
    let parts : c.parts-parts.result ≡ parts_in p = c.parts-parts.ensures ∙ ap (which_parts p.places) c.slot.ensures in
    subst (λ (v : _). LeavesOnly g.D.Disk v.disk c.turn.new.disk (StandsFor v.cap (project_of v.maps))) c.self.view_is
    (turn_moments g.D.Disk p framed ready c.turn.new.disk (body_in c.args.image.now) is formed
    (subst (λ (q : Parts). LeavesOnly g.D.Disk p.disk c.turn.new.disk (From (g.D.Disk.may_leave p.disk) (MayTurn (cap_of p.geometry) (generation_of p.slots) q (body_in c.args.image.now)))) parts
    (c.turn.ensures.any_moment (cap_of p.geometry))))

pub returns-in-Err-clause-any_moment : goal.returns-in-Err-clause-any_moment
returns-in-Err-clause-any_moment g c =
    let p = c.self.inside in
    let framed = c.self.invariant.framed in
    let ready = c.self.invariant.ready (ap (λ (v : _). v.must_reopen) c.self.view_is ∙ c.requires.ready) in
    let is : body_in c.args.image.now ≡ project_body (project_of p.maps) = subst (λ (v : _). body_in c.args.image.now ≡ project_body (project_of v.maps)) (sym c.self.view_is) c.requires.body in
    let formed : WellFormedProject (project_of p.maps) = subst (λ (v : _). WellFormedProject (project_of v.maps)) (sym c.self.view_is) c.requires.well_formed in
    let parts : c.parts-parts.result ≡ parts_in p = c.parts-parts.ensures ∙ ap (which_parts p.places) c.slot.ensures in
    subst (λ (v : _). LeavesOnly g.D.Disk v.disk c.turn.new.disk (StandsFor v.cap (project_of v.maps))) c.self.view_is
    (turn_moments g.D.Disk p framed ready c.turn.new.disk (body_in c.args.image.now) is formed
    (subst (λ (q : Parts). LeavesOnly g.D.Disk p.disk c.turn.new.disk (From (g.D.Disk.may_leave p.disk) (MayTurn (cap_of p.geometry) (generation_of p.slots) q (body_in c.args.image.now)))) parts
    (c.turn.ensures.any_moment (cap_of p.geometry))))
