use Rattle.std.proofs.Common.{ℕ, Option, Ok, ap, subst}
use Rattle.map_tables.specs.Projects.{project_of}
use Rattle.store_project.specs.Opening.{AreReplayed}
use Rattle.store_project.proofs.Openings.{now_refused, still_refused}
use Rattle.store_project.proofs.Recording.{leads_push}
use Rattle.store_project.proofs.opening.advance_unless.Goals as goal

pub returns-in-Some-clause-replayed : goal.returns-in-Some-clause-replayed
returns-in-Some-clause-replayed c at base lines there was =
    still_refused c.args.cap at base lines c.args.line.now c.in-Some.earlier (project_of c.args.maps.now) (project_of c.args.maps.now)
    (subst (λ (r : Option ℕ). AreReplayed c.args.cap at base lines r (project_of c.args.maps.now)) c.in-Some.is was)

pub returns-in-Ok-true-clause-replayed : goal.returns-in-Ok-true-clause-replayed
returns-in-Ok-true-clause-replayed c at base lines there was =
    leads_push c.args.cap base lines c.args.line.now (project_of c.args.maps.now) (project_of c.advance.new.maps)
    (subst (λ (r : Option ℕ). AreReplayed c.args.cap at base lines r (project_of c.args.maps.now)) c.in-None.is was)
    (c.in-Ok-true.ensures.led (ap Ok c.in-Ok-true.field-0-test))

pub returns-in-Ok-false-clause-replayed : goal.returns-in-Ok-false-clause-replayed
returns-in-Ok-false-clause-replayed c at base lines there was =
    now_refused c.args.cap at base lines c.args.line.now c.args.gate (project_of c.args.maps.now) (project_of c.advance.new.maps) there
    (c.in-Ok-false.ensures.not_led (ap Ok c.in-Ok-false.field-0-test))
    (subst (λ (r : Option ℕ). AreReplayed c.args.cap at base lines r (project_of c.args.maps.now)) c.in-None.is was)
