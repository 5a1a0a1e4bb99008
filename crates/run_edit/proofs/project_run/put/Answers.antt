use Rattle.std.proofs.Common.{◌≡◌, ◌∙◌, ℕ, List, Bool, Result, Ok, Err, true, false, sym, ap, subst}
use Rattle.std.specs.Prelude.{is_ok, map}
use Rattle.std.specs.List.{list_any}
use Rattle.map_tables.specs.Projects.{project_of}
use Rattle.run_edit.specs.Groups.{Decided}
use Rattle.run_edit.proofs.GroupCalls.{quiet_goes, waiting_put}
use Rattle.run_edit.proofs.Waiting.{refused_empty, some_empty}
use Rattle.run_edit.proofs.project_run.put.Goals as goal

pub returns-then-not-any_accepted-clause-goes : goal.returns-then-not-any_accepted-clause-goes
returns-then-not-any_accepted-clause-goes g c = λ batch lines group outcomes waits.
    let none : list_any is_ok (map (λ (d : Decided). d.outcome) waits.decided) ≡ false =
    ap (λ (os : List (Result ℕ ℕ)). list_any is_ok os) (waits.outcomes ∙ outcomes) ∙ sym c.any_accepted.ensures ∙ c.if-not-any_accepted.true in
    quiet_goes g.D.Disk c.args.project.now waits.decided (project_of batch.group.maps) waits.ready none waits.leads

pub returns-in-Ok-clause-goes : goal.returns-in-Ok-clause-goes
returns-in-Ok-clause-goes g c = λ batch lines group outcomes waits.
    let any : list_any is_ok (map (λ (d : Decided). d.outcome) waits.decided) ≡ true =
    ap (λ (os : List (Result ℕ ℕ)). list_any is_ok os) (waits.outcomes ∙ outcomes) ∙ sym c.any_accepted.ensures ∙ c.if-not-any_accepted.false in
    waiting_put g.D.Disk g.met.D.Disk.counts_now c.args.project.now c.put_and_begin.new.self batch lines c.args.group (Ok (tt {0})) group waits c.in-Ok.ensures.ends c.in-Ok.ensures.any_moment
    c.in-Ok.ensures.kept c.in-Ok.ensures.cap any

pub returns-in-Err-clause-goes : goal.returns-in-Err-clause-goes
returns-in-Err-clause-goes g c = λ batch lines group outcomes waits.
    let any : list_any is_ok (map (λ (d : Decided). d.outcome) waits.decided) ≡ true =
    ap (λ (os : List (Result ℕ ℕ)). list_any is_ok os) (waits.outcomes ∙ outcomes) ∙ sym c.any_accepted.ensures ∙ c.if-not-any_accepted.false in
    waiting_put g.D.Disk g.met.D.Disk.counts_now c.args.project.now c.put_and_begin.new.self batch lines c.args.group (Err c.in-Err.field-0) group waits c.in-Err.ensures.ends c.in-Err.ensures.any_moment
    c.in-Err.ensures.kept c.in-Err.ensures.cap any

pub returns-then-not-any_accepted-clause-left : goal.returns-then-not-any_accepted-clause-left
returns-then-not-any_accepted-clause-left g c = λ batch lines group outcomes waits.
    refused_empty c.args.project.now batch lines c.args.group group waits
    (ap (λ (os : List (Result ℕ ℕ)). list_any is_ok os) (waits.outcomes ∙ outcomes) ∙ sym c.any_accepted.ensures ∙ c.if-not-any_accepted.true)

pub returns-in-Ok-clause-left : goal.returns-in-Ok-clause-left
returns-in-Ok-clause-left g c = λ batch lines group outcomes waits. some_empty c.put_and_begin.new.self c.in-Ok.left c.in-Ok.ensures.ends.1 c.in-Ok.ensures.begun
