use Rattle.std.proofs.Common.{◌∙◌, ap, refl, sym, subst, arith}
use Rattle.std.specs.Prelude.{Err, IsOk}
use Rattle.std.proofs.lemmas.Bool.{ltb-false}
use Rattle.map_tables.specs.Outcomes.{Covers}
use Rattle.map_tables.specs.Projects.{body_len, project_of}
use Rattle.map_commands.specs.ProjectStep.{project_after}
use Rattle.map_commands.proofs.ProjectSteps.{can-commit, code-is-low, fullness, refused-by, same-project, step-accepts, step-is-full, step-refuses}
use Rattle.map_commands.proofs.Steps.{not-memory}
use Rattle.map_commands.proofs.project.changes.ready.Goals as goal

pub of_edit-requires : goal.of_edit-requires
of_edit-requires c =
    let low = code-is-low (project_of c.args.maps.now) c.args.command.now _ c.in-Err.ensures in
    omega (arith, low)

pub returns-in-Err-clause-refused : goal.returns-in-Err-clause-refused
returns-in-Err-clause-refused c =
    let p = project_of c.args.maps.now in
    let low = code-is-low p c.args.command.now _ c.in-Err.ensures in
    refused-by c.of_edit.result _ (omega (arith, low, c.of_edit.ensures)) (step-refuses p c.args.command.now c.args.cap _ c.in-Err.ensures ∙ ap Err (sym c.of_edit.ensures))

pub returns-in-Err-clause-promised : goal.returns-in-Err-clause-promised
returns-in-Err-clause-promised c =
    let low = code-is-low (project_of c.args.maps.now) c.args.command.now _ c.in-Err.ensures in
    λ covered is. not-memory c.of_edit.result (omega (arith, low, c.of_edit.ensures)) (cc is)

pub returns-then-is_full-clause-refused : goal.returns-then-is_full-clause-refused
returns-then-is_full-clause-refused c =
    step-is-full (project_of c.args.maps.now) c.args.command.now c.args.cap c.in_default.ensures
    (fullness c.args.maps.now c.args.command.now c.args.cap c.requires.fits ∙ sym c.is_full.ensures ∙ c.if-is_full.true)

pub returns-in-Ok-clause-project : goal.returns-in-Ok-clause-project
returns-in-Ok-clause-project c = same-project c.args.maps.now c.reserve.new.self c.reserve.ensures.tables c.reserve.ensures.others

pub returns-in-Ok-clause-accepted : goal.returns-in-Ok-clause-accepted
returns-in-Ok-clause-accepted c =
    step-accepts (project_of c.args.maps.now) c.args.command.now c.args.cap c.in_default.ensures
    (fullness c.args.maps.now c.args.command.now c.args.cap c.requires.fits ∙ sym c.is_full.ensures ∙ c.if-is_full.false)

pub returns-in-Ok-clause-fits : goal.returns-in-Ok-clause-fits
returns-in-Ok-clause-fits c =
    ltb-false c.args.cap (body_len (project_after (project_of c.args.maps.now) c.args.command.now))
    (fullness c.args.maps.now c.args.command.now c.args.cap c.requires.fits ∙ sym c.is_full.ensures ∙ c.if-is_full.false)

pub returns-in-Ok-clause-ready : goal.returns-in-Ok-clause-ready
returns-in-Ok-clause-ready c =
    can-commit c.args.maps.now c.reserve.new.self c.args.command.now c.requires.range c.in_default.ensures
    (same-project c.args.maps.now c.reserve.new.self c.reserve.ensures.tables c.reserve.ensures.others) (subst (Covers c.reserve.new.self.spare) c.need_of.ensures c.in-Ok.ensures.ok)

pub returns-in-Err-reserve-clause-refused : goal.returns-in-Err-reserve-clause-refused
returns-in-Err-reserve-clause-refused c =
    subst IsOk
    (sym (step-accepts (project_of c.args.maps.now) c.args.command.now c.args.cap c.in_default.ensures
    (fullness c.args.maps.now c.args.command.now c.args.cap c.requires.fits ∙ sym c.is_full.ensures ∙ c.if-is_full.false))) refl
