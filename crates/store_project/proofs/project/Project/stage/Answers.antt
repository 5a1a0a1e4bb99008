use Rattle.std.proofs.Common.{◌≤◌, ◌≡◌, ◌∙◌, ◌+◌, ◌-◌, ◌++◌, ◌∷◌, [], ℕ, List, Ok, length, refl, sym, ap, subst}
use Rattle.store_journal.specs.Groups.{IsGroupOf}
use Rattle.store_journal.specs.State.{IsAbove}
use Rattle.map_tables.specs.Projects.{MapsView, ProjectMaps, body_len, project_of}
use Rattle.map_commands.specs.ProjectCommands.{InProjectRange, project_spelling}
use Rattle.map_commands.specs.ProjectReadiness as readiness
use Rattle.map_commands.specs.ProjectLines.{Accepts}
use Rattle.map_commands.specs.ProjectStep.{project_after, project_number_of, step}
use Rattle.map_commands.specs.declared.project.command.ProjectCommand.{ProjectCommand}
use Rattle.store_project.specs.Groups.{GroupState}
use Rattle.store_project.proofs.Endings.{fault_told, step_told}
use Rattle.store_project.proofs.Grouping.{all_fit, can_push}
use Rattle.store_project.proofs.project.Project.stage.Goals as goal

pub returns-in-Err-clause-ends : goal.returns-in-Err-clause-ends
returns-in-Err-clause-ends g c = (
  fault_told c.args.self.now.cap (project_of c.args.group.now.maps) c.args.line.now c.in-Err.error c.refusal_of.result c.refusal_of.ensures c.in-Err.ensures.fault,
  (refl, refl),
)

pub ready-requires-clause-fits : goal.ready-requires-clause-fits
ready-requires-clause-fits g c =
    let now = c.args.self.now in
    let cap : now.cap ≡ c.cap.result = sym (ap (λ (v : _). v.cap) c.self.view_is) ∙ sym c.cap.ensures in
    let before : body_len (project_of now.maps) ≤ now.cap = subst (λ (v : _). body_len (project_of v.maps) ≤ v.cap) c.self.view_is c.self.invariant.framed.fits in
    let after : body_len (project_of c.args.group.now.maps) ≤ now.cap =
    all_fit now.cap (project_of now.maps) c.requires.0 (project_of c.args.group.now.maps) before c.requires.1.accepted in
    subst (λ (k : ℕ). body_len (project_of c.group.inside.maps) ≤ k) cap
    (subst (λ (v : GroupState). body_len (project_of v.maps) ≤ now.cap) (sym c.group.view_is) after)

pub returns-in-Err-ready-clause-ends : goal.returns-in-Err-ready-clause-ends
returns-in-Err-ready-clause-ends g c =
    let cap : c.cap.result ≡ c.args.self.now.cap = c.cap.ensures ∙ ap (λ (v : _). v.cap) c.self.view_is in
    let by = subst (λ (v : GroupState). readiness.RefusesStep c.in-Err-ready.error (step (project_of v.maps) c.in-Ok.command c.args.self.now.cap)) c.group.view_is
    (subst (λ (k : ℕ). readiness.RefusesStep c.in-Err-ready.error (step (project_of c.group.inside.maps) c.in-Ok.command k)) cap c.in-Err-ready.ensures.refused) in (
      step_told c.args.self.now.cap (project_of c.args.group.now.maps) c.args.line.now c.in-Err-ready.error c.refusal_of-in-Err-ready.result c.refusal_of-in-Err-ready.ensures
          c.in-Ok.command by c.in-Ok.ensures.ok.1 c.in-Ok.ensures.ok.0 c.in-Ok.ensures.fault,
      (ap (λ (v : GroupState). v.bytes) c.group.view_is, c.ready.ensures.project ∙ ap (λ (v : GroupState). project_of v.maps) c.group.view_is),
    )

-- the command that is ready is one that the group's maps accept
accepted : (n k : ℕ) (m p q new : ProjectMaps) (line : List ℕ) (c d : ProjectCommand) (number : ℕ) → k ≡ n → p ≡ m → q ≡ p → d ≡ c → InProjectRange c → line ≡ project_spelling c
    → step p c k ≡ Ok (project_after p c, project_number_of p c) → new ≡ project_after q d → number ≡ project_number_of q d → Accepts n m line new number
accepted n k m p q new line c d number cap map_is same command range line_is stepped new_is number_is =
    record { command = c; range = range; line_is = line_is; stepped = cc }

pub returns-then-not-has_room_behind-clause-ends :
    goal.returns-then-not-has_room_behind-clause-ends
returns-then-not-has_room_behind-clause-ends g c =
    let p = project_of c.group.inside.maps in (
      subst (λ (n : ℕ). IsAbove c.args.self.now.room (n - 1 + length c.args.line.now)) (c.len.ensures ∙ ap (λ (v : GroupState). length v.bytes) c.group.view_is)
          (c.has_room_behind.ensures.full c.if-not-has_room_behind.true),
      (
        project_after p c.in-Ok.command,
        (
          project_number_of p c.in-Ok.command,
          accepted c.args.self.now.cap c.cap.result (project_of c.args.group.now.maps) p p _ c.args.line.now c.in-Ok.command c.in-Ok.command _
              (c.cap.ensures ∙ ap (λ (v : _). v.cap) c.self.view_is) (ap (λ (v : GroupState). project_of v.maps) c.group.view_is) refl refl
              c.in-Ok.ensures.ok.1 c.in-Ok.ensures.ok.0 c.in-Ok-ready.ensures.accepted refl refl,
        ),
      ),
      (ap (λ (v : GroupState). v.bytes) c.group.view_is, c.ready.ensures.project ∙ ap (λ (v : GroupState). project_of v.maps) c.group.view_is),
    )

pub returns-in-Ok-push-clause-can : goal.returns-in-Ok-push-clause-can
returns-in-Ok-push-clause-can g c staged can =
    can_push c.args.self.now c.args.group.now _ staged (record { line = c.args.line.now; number = c.commit.result }) can
    (λ full. c.has_room_behind.ensures.room c.if-not-has_room_behind.false
    (subst (λ (n : ℕ). IsAbove c.args.self.now.room (n - 1 + length c.args.line.now)) (sym (c.len.ensures ∙ ap (λ (v : GroupState). length v.bytes) c.group.view_is)) full))
    (λ lines is. subst (λ (v : GroupState). IsGroupOf (lines ++ c.args.line.now ∷ []) v.bytes) (sym c.group-2.view_is)
    (c.in-Ok-push.ensures.pushed lines (subst (λ (v : GroupState). IsGroupOf lines v.bytes) (sym c.group.view_is) is)))
    (accepted c.args.self.now.cap c.cap.result (project_of c.args.group.now.maps) (project_of c.group.inside.maps) (project_of c.group-2.inside.maps) (project_of c.commit.new.maps)
    c.args.line.now c.in-Ok.command c.in-Ok-ready.ready.command c.commit.result
    (c.cap.ensures ∙ ap (λ (v : _). v.cap) c.self.view_is) (ap (λ (v : GroupState). project_of v.maps) c.group.view_is)
    (ap (λ (v : GroupState). project_of v.maps) c.group-2.view_is ∙ ap (λ (m : MapsView). project_of m) c.push.ensures.maps ∙ c.ready.ensures.project) c.in-Ok-ready.ensures.same
    c.in-Ok.ensures.ok.1 c.in-Ok.ensures.ok.0 c.in-Ok-ready.ensures.accepted c.commit.ensures.project c.commit.ensures.number)

pub returns-in-Err-push-clause-ends : goal.returns-in-Err-push-clause-ends
returns-in-Err-push-clause-ends g c =
    let p = project_of c.group.inside.maps in (
      (
        project_after p c.in-Ok.command,
        (
          project_number_of p c.in-Ok.command,
          accepted c.args.self.now.cap c.cap.result (project_of c.args.group.now.maps) p p _ c.args.line.now c.in-Ok.command c.in-Ok.command _
              (c.cap.ensures ∙ ap (λ (v : _). v.cap) c.self.view_is) (ap (λ (v : GroupState). project_of v.maps) c.group.view_is) refl refl
              c.in-Ok.ensures.ok.1 c.in-Ok.ensures.ok.0 c.in-Ok-ready.ensures.accepted refl refl,
        ),
      ),
      (c.in-Err-push.ensures.stays ∙ ap (λ (v : GroupState). v.bytes) c.group.view_is, ap (λ (m : MapsView). project_of m) c.push.ensures.maps ∙ c.ready.ensures.project ∙ ap (λ (v : GroupState). project_of v.maps) c.group.view_is),
    )
