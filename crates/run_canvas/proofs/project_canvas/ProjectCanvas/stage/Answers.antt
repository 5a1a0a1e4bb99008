use Rattle.std.proofs.Common.{◌≡◌, ◌∙◌, ◌⊎◌, Option, false, inr, length, sym, subst}
use Rattle.std.specs.Prelude.{MatchOption, is_some}
use Rattle.store_journal.specs.State.{IsAbove}
use Rattle.store_project.specs.Groups.{GroupState, IsFullFor}
use Rattle.run_canvas.specs.Waiting.{CannotWait, Drawing}
use Rattle.run_canvas.proofs.project_canvas.ProjectCanvas.stage.Goals as goal

pub returns-in-Some-clause-alone : goal.returns-in-Some-clause-alone
returns-in-Some-clause-alone g c = λ none.
    let line = c.args.line.now in
    let inside = c.self.inside in
    let some = sym c.take.ensures.value ∙ c.in-Some.is in
    subst (λ (d : Drawing _). CannotWait d line) c.self.view_is
    (inr (subst (λ (o : Option GroupState). MatchOption o (IsAbove inside.project.room (length line) ⊎ (is_some inside.spare ≡ false)) (λ g. IsFullFor inside.project g line)) (sym some) (c.stage_behind.ensures.full none)))

pub returns-in-None-clause-alone : goal.returns-in-None-clause-alone
returns-in-None-clause-alone g c = λ no.
    let line = c.args.line.now in
    let inside = c.self.inside in
    let none = sym c.take.ensures.value ∙ c.in-None.is in
    subst (λ (d : Drawing _). CannotWait d line) c.self.view_is
    (inr (subst (λ (o : Option GroupState). MatchOption o (IsAbove inside.project.room (length line) ⊎ (is_some inside.spare ≡ false)) (λ g. IsFullFor inside.project g line)) (sym none) (c.stage_first.ensures.full no)))
