use Rattle.std.proofs.Common.{◌≡◌, ◌∙◌, ℕ, false, inl, inr, length, Ok, Err, OnOk, ap, sym, subst, refl}
use Rattle.store_disk.specs.Moments.{LeavesOnly}
use Rattle.map_tables.specs.Projects.{ProjectMaps, project_of}
use Rattle.map_commands.specs.ProjectReadiness as readiness
use Rattle.map_commands.specs.ProjectLines.{Accepts, LeadsTo}
use Rattle.map_commands.specs.ProjectStep.{project_after, project_number_of, step}
use Rattle.store_project.specs.Fields.{project_state}
use Rattle.store_project.specs.Outcomes.{EndsApply, TurnsWhereFull}
use Rattle.store_project.specs.Places.{cap_of}
use Rattle.store_project.specs.Stands.{IsOutcome, Stands, StandsFor}
use Rattle.store_project.proofs.Sound.{both_moments, is_kept, kept_view, no_moment, no_outcome, room_moments}
use Rattle.store_project.proofs.Endings.{ends_from, fault_told, line_refused, room_refused, step_told, turned_then}
use Rattle.store_journal.specs.State.{IsAbove}
use Rattle.store_project.specs.declared.error.ProjectError.TheVariants.{GenerationsSpent}
use Rattle.store_project.proofs.Spent.{device_or, err_ok, error_same, not_refused}
use Rattle.store_project.proofs.Wanting.{adds_items, device_alone, no_command}
use Rattle.store_project.proofs.project.Project.apply.Goals as goal

pub returns-in-Err-clause-memory : goal.returns-in-Err-clause-memory
returns-in-Err-clause-memory g c is =
    absurd (no_command c.args.line.now c.in-Err.error c.refusal_of.result c.refusal_of.ensures c.in-Err.ensures.fault is)

pub returns-in-Err-ready-clause-memory : goal.returns-in-Err-ready-clause-memory
returns-in-Err-ready-clause-memory g c is =
    inl (adds_items c.args.line.now c.in-Ok.command c.self.inside.maps.spare c.in-Err-ready.error c.refusal_of-in-Err-ready.result
    c.in-Ok.ensures.ok.1 c.in-Ok.ensures.ok.0 c.refusal_of-in-Err-ready.ensures c.in-Err-ready.ensures.promised is)

pub returns-in-Err-make_room-clause-memory : goal.returns-in-Err-make_room-clause-memory
returns-in-Err-make_room-clause-memory g c is =
    inr (subst (λ (v : _). IsAbove v.room (length c.args.line.now)) c.self.view_is c.in-Err-make_room.ensures.ends.1)

pub returns-clause-memory : goal.returns-clause-memory
returns-clause-memory g c is = absurd (device_alone c.record.result c.record.ensures.device is)

pub returns-in-Err-clause-any_moment : goal.returns-in-Err-clause-any_moment
returns-in-Err-clause-any_moment g c =
    no_outcome g.D.Disk c.self.inside c.self.invariant.framed c.args.self.now c.args.line.now c.self.view_is c.self.invariant.ready (λ file left. g.met.D.Disk.only_now c.args.self.now.disk file left)

pub returns-in-Err-clause-kept : goal.returns-in-Err-clause-kept
returns-in-Err-clause-kept g c = kept_view g.D.Disk c.self.inside c.self.invariant.framed c.args.self.now c.self.view_is c.self.invariant.ready

pub returns-in-Err-ready-clause-kept : goal.returns-in-Err-ready-clause-kept
returns-in-Err-ready-clause-kept g c go file left =
    subst (λ (t : ProjectMaps). Stands (cap_of c.self.inside.geometry) t c.self.inside.slots.generation file) (sym c.ready.ensures.project)
    (is_kept g.D.Disk c.self.inside c.self.invariant.framed c.self.invariant.ready go file left)

pub returns-in-Err-ready-clause-any_moment : goal.returns-in-Err-ready-clause-any_moment
returns-in-Err-ready-clause-any_moment g c =
    subst (λ (v : _). v.must_reopen ≡ false → LeavesOnly g.D.Disk v.disk c.self.inside.disk (IsOutcome v.cap (project_of v.maps) c.args.line.now)) c.self.view_is
    (no_outcome g.D.Disk c.self.inside c.self.invariant.framed
    (project_state c.self.inside) c.args.line.now refl c.self.invariant.ready
    (λ file left. g.met.D.Disk.only_now c.self.inside.disk file left))

pub returns-in-Err-make_room-clause-any_moment : goal.returns-in-Err-make_room-clause-any_moment
returns-in-Err-make_room-clause-any_moment g c =
    subst (λ (v : _). v.must_reopen ≡ false → LeavesOnly g.D.Disk v.disk c.make_room.new.self.disk (IsOutcome v.cap (project_of v.maps) c.args.line.now)) c.self.view_is
    (λ go. room_moments g.D.Disk (cap_of c.self.inside.geometry) (project_of c.self.inside.maps)
    (project_of c.ready.new.maps) c.args.line.now c.self.inside.disk c.make_room.new.self.disk c.ready.ensures.project c.make_room.ensures.any_moment)

pub returns-clause-any_moment : goal.returns-clause-any_moment
returns-clause-any_moment g c =
    subst (λ (v : _). v.must_reopen ≡ false → LeavesOnly g.D.Disk v.disk c.record.new.self.disk (IsOutcome v.cap (project_of v.maps) c.args.line.now)) c.self.view_is
    (λ go. both_moments g.D.Disk (cap_of c.self.inside.geometry) (project_of c.self.inside.maps) (project_of c.make_room.new.self.maps) c.make_room.new.self.cap c.args.line.now
    c.self.inside.disk c.make_room.new.self.disk c.record.new.self.disk (ap project_of c.make_room.ensures.maps ∙ c.ready.ensures.project) c.make_room.ensures.cap
    (subst (λ (t : ProjectMaps). LeavesOnly g.D.Disk c.self.inside.disk c.make_room.new.self.disk
    (StandsFor
    (cap_of c.self.inside.geometry) t)) c.ready.ensures.project c.make_room.ensures.any_moment) c.record.ensures.any_moment)

pub returns-clause-ends : goal.returns-clause-ends
returns-clause-ends g c =
    subst (λ (v : _). v.must_reopen ≡ false → EndsApply g.D.Disk c.record.result v c.record.new.self c.args.line.now) c.self.view_is
    (λ go. ends_from g.D.Disk (project_state c.self.inside) c.make_room.new.self c.record.new.self c.args.line.now
    (ap project_of c.make_room.ensures.maps ∙ c.ready.ensures.project) c.make_room.ensures.cap
    go c.in-Ok-make_room.ensures.ends.0 c.make_room.ensures.later c.record.ensures.later c.in-Ok-make_room.ensures.ends.1 c.record.result c.record.ensures.ends)
    (sym (ap (λ (v : _). v.must_reopen) c.self.view_is) ∙ c.if-self.false)

pub returns-in-Err-ready-clause-ends : goal.returns-in-Err-ready-clause-ends
returns-in-Err-ready-clause-ends g c =
    let by = subst (λ (v : _). readiness.RefusesStep c.in-Err-ready.error (step (project_of v.maps) c.in-Ok.command v.cap)) c.self.view_is
    (subst (λ (k : ℕ). readiness.RefusesStep c.in-Err-ready.error (step (project_of c.self.inside.maps) c.in-Ok.command k)) c.cap.ensures c.in-Err-ready.ensures.refused) in (
      c.ready.ensures.project ∙ ap (λ (v : _). (project_of v.maps)) c.self.view_is,
      line_refused g.D.Disk c.args.self.now _ c.args.line.now (sym (ap (λ (v : _). v.must_reopen) c.self.view_is) ∙ c.if-self.false) c.if-self.false c.refusal_of-in-Err-ready.result
          (step_told c.args.self.now.cap (project_of c.args.self.now.maps) c.args.line.now c.in-Err-ready.error c.refusal_of-in-Err-ready.result c.refusal_of-in-Err-ready.ensures
          c.in-Ok.command by c.in-Ok.ensures.ok.1 c.in-Ok.ensures.ok.0 c.in-Ok.ensures.fault),
    )

pub returns-in-Err-clause-spent : goal.returns-in-Err-clause-spent
returns-in-Err-clause-spent g c go above last new leads =
    absurd (err_ok c.in-Err.error leads.1.command (Err c.in-Err.error) refl (c.in-Err.ensures.all leads.1.command leads.1.range leads.1.line_is))

pub returns-in-Err-ready-clause-spent : goal.returns-in-Err-ready-clause-spent
returns-in-Err-ready-clause-spent g c go above last new leads =
    let by = subst (λ (v : _). readiness.RefusesStep c.in-Err-ready.error (step (project_of v.maps) c.in-Ok.command v.cap)) c.self.view_is
    (subst (λ (k : ℕ). readiness.RefusesStep c.in-Err-ready.error (step (project_of c.self.inside.maps) c.in-Ok.command k)) c.cap.ensures c.in-Err-ready.ensures.refused) in
    not_refused (project_of c.args.self.now.maps) c.args.self.now.cap c.args.line.now c.in-Ok.command c.in-Err-ready.error c.refusal_of-in-Err-ready.result c.refusal_of-in-Err-ready.ensures by
    c.in-Ok.ensures.ok.0 c.in-Ok.ensures.ok.1 new leads

pub returns-in-Err-make_room-clause-spent : goal.returns-in-Err-make_room-clause-spent
returns-in-Err-make_room-clause-spent g c go above last new leads =
    inl (error_same c.in-Err-make_room.error GenerationsSpent (c.in-Err-make_room.ensures.spent.1
    (subst (λ (v : _). IsAbove v.room (length c.args.line.now)) (sym c.self.view_is) above, ap (λ (v : _). v.generation) c.self.view_is ∙ last)))

pub returns-clause-spent : goal.returns-clause-spent
returns-clause-spent g c go above last new leads =
    absurd (err_ok GenerationsSpent c.in-Ok-make_room.field-0 (Ok c.in-Ok-make_room.field-0)
    (c.in-Ok-make_room.ensures.spent.1 (subst (λ (v : _). IsAbove v.room (length c.args.line.now)) (sym c.self.view_is) above, ap (λ (v : _). v.generation) c.self.view_is ∙ last)) refl)

pub returns-in-Err-clause-refused_moment : goal.returns-in-Err-clause-refused_moment
returns-in-Err-clause-refused_moment g c go =
    inr (no_moment g.D.Disk c.self.inside c.self.invariant.framed c.args.self.now c.self.view_is c.self.invariant.ready (λ file left. g.met.D.Disk.only_now c.args.self.now.disk file left) go)

pub returns-in-Err-ready-clause-refused_moment : goal.returns-in-Err-ready-clause-refused_moment
returns-in-Err-ready-clause-refused_moment g c go =
    inr (subst (λ (v : _). v.must_reopen ≡ false → LeavesOnly g.D.Disk v.disk c.self.inside.disk (StandsFor v.cap (project_of v.maps))) c.self.view_is
    (no_moment g.D.Disk c.self.inside c.self.invariant.framed (project_state c.self.inside) refl c.self.invariant.ready (λ file left. g.met.D.Disk.only_now c.self.inside.disk file left)) go)

pub returns-in-Err-make_room-clause-refused_moment : goal.returns-in-Err-make_room-clause-refused_moment
returns-in-Err-make_room-clause-refused_moment g c go =
    inr (subst (λ (v : _). LeavesOnly g.D.Disk v.disk c.make_room.new.self.disk (StandsFor v.cap (project_of v.maps))) c.self.view_is
    (subst (λ (t : ProjectMaps). LeavesOnly g.D.Disk c.self.inside.disk c.make_room.new.self.disk
    (StandsFor (cap_of c.self.inside.geometry) t)) c.ready.ensures.project c.make_room.ensures.any_moment))

pub returns-clause-refused_moment : goal.returns-clause-refused_moment
returns-clause-refused_moment g c =
    device_or (c.args.self.now.must_reopen ≡ false)
    (LeavesOnly g.D.Disk c.args.self.now.disk c.record.new.self.disk
    (StandsFor c.args.self.now.cap (project_of c.args.self.now.maps))) c.record.result c.record.ensures.device

pub returns-in-Err-make_room-clause-ends : goal.returns-in-Err-make_room-clause-ends
returns-in-Err-make_room-clause-ends g c =
    let m = (project_of c.self.inside.maps) in
    let n = cap_of c.self.inside.geometry in
    let accepts : Accepts n m c.args.line.now (project_after m c.in-Ok.command) (project_number_of m c.in-Ok.command) = record {
      command = c.in-Ok.command;
      range = c.in-Ok.ensures.ok.1;
      line_is = c.in-Ok.ensures.ok.0;
      stepped = subst (λ (k : ℕ). step m c.in-Ok.command k ≡ Ok (project_after m c.in-Ok.command, project_number_of m c.in-Ok.command)) c.cap.ensures c.in-Ok-ready.ensures.accepted;
    } in
    let leads : (next : ProjectMaps) × LeadsTo n m c.args.line.now next = (project_after m c.in-Ok.command, (project_number_of m c.in-Ok.command, accepts)) in
    subst (λ (v : _). v.must_reopen ≡ false → EndsApply g.D.Disk (Err c.in-Err-make_room.error) v c.make_room.new.self c.args.line.now) c.self.view_is
    (λ go. (
      ap project_of c.make_room.ensures.maps ∙ c.ready.ensures.project,
      room_refused g.D.Disk (project_state c.self.inside) (record (project_state c.self.inside) { maps = c.ready.new.maps }) c.make_room.new.self c.args.line.now go refl refl refl refl leads
          c.in-Err-make_room.error c.in-Err-make_room.ensures.ends.0 c.in-Err-make_room.ensures.ends.1,
    ))
    (sym (ap (λ (v : _). v.must_reopen) c.self.view_is) ∙ c.if-self.false)

pub returns-clause-turned : goal.returns-clause-turned
returns-clause-turned g c =
    subst (λ (v : _). OnOk c.record.result (TurnsWhereFull v c.record.new.self (length c.args.line.now))) c.self.view_is
    (turned_then (project_state c.self.inside) c.make_room.new.self c.record.new.self (length c.args.line.now) c.record.result c.in-Ok-make_room.ensures.turned c.record.ensures.generation)

pub returns-in-Err-clause-ends : goal.returns-in-Err-clause-ends
returns-in-Err-clause-ends g c = (
  refl,
  (let still = sym (ap (λ (v : _). v.must_reopen) c.self.view_is) ∙ c.if-self.false in
      line_refused g.D.Disk c.args.self.now c.args.self.now c.args.line.now still still c.refusal_of.result
      (fault_told c.args.self.now.cap (project_of c.args.self.now.maps) c.args.line.now c.in-Err.error c.refusal_of.result c.refusal_of.ensures c.in-Err.ensures.fault)),
)
