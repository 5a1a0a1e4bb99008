-- When no generation is left.
use Rattle.std.proofs.Common.{◌≡◌, ◌⊎◌, inl, inr, ℕ, Bool, true, false, List, Result, Ok, Err, IfErr, IsOk, sym, ◌∙◌, ap}
use Rattle.std.proofs.lemmas.Bool.{true≢false}
use Rattle.map_tables.specs.Projects.{ProjectMaps}
use Rattle.map_commands.specs.ProjectCommands.{InProjectRange}
use Rattle.map_commands.specs.ProjectCommands.{project_spelling}
use Rattle.map_commands.specs.ProjectStep.{step}
use Rattle.map_commands.specs.Errors as commands
use Rattle.map_commands.specs.ProjectReadiness as readiness
use Rattle.map_commands.specs.declared.project.command.ProjectCommand.{ProjectCommand}
use Rattle.map_commands.specs.declared.error.CommandError.{CommandError}
use Rattle.map_commands.proofs.ProjectWords.{project_spelling-one}
use Rattle.map_commands.specs.ProjectLines.{LeadsTo}
use Rattle.store_project.specs.Refusals.{IsRefusalOf}
use Rattle.store_project.specs.declared.error.ProjectError.{ProjectError}
use Rattle.store_project.specs.declared.error.ProjectError.TheVariants.{Device, OutOfMemory, GenerationsSpent, Refused}
use Rattle.store_project.proofs.Endings.{split}

abbrev is_good : {T E : Type 0} → Result T E → Bool
is_good (Ok t) = true
is_good (Err e) = false

pub err_ok : {T E : Type 0} (e : E) (t : T) (r : Result T E) → r ≡ Err e → r ≡ Ok t → ⊥
err_ok e t r bad good = true≢false (sym (ap is_good good) ∙ ap is_good bad)

abbrev pub error_in : {T E : Type 0} → E → Result T E → E
error_in d (Ok t) = d
error_in d (Err e) = e

-- the same error of another call
pub error_same : {T U E : Type 0} (e d : E) → ◌≡◌ {A = Result T E} (Err e) (Err d) → ◌≡◌ {A = Result U E} (Err e) (Err d)
error_same {T = T} {U = U} {E = E} e d is = ap (λ (x : E). the_err x) (ap (λ (r : Result T E). error_in d r) is)
  where
    the_err : E → Result U E
    the_err x = Err x

-- a line that leads on isn't refused, but for lack of memory
pub not_refused : {T : Type 0} (m : ProjectMaps) (n : ℕ) (line : List ℕ) (c : ProjectCommand) (e : CommandError)
    (r : ProjectError) → IsRefusalOf r e → readiness.RefusesStep e (step m c n) → line ≡ project_spelling c
    → InProjectRange c
    → (new : ProjectMaps) → LeadsTo n m line new → (◌≡◌ {A = Result T ProjectError} (Err r) (Err GenerationsSpent)) ⊎ (◌≡◌ {A = Result T ProjectError} (Err r) (Err OutOfMemory))
not_refused {T = T} m n line c e r is by line_is range new (k, a) = at (split e r (step m c n) is by)
  where
    the_err : ProjectError → Result T ProjectError
    the_err x = Err x

    at : ((r ≡ OutOfMemory) × IsOk (step m c n)) ⊎ ((r ≡ Refused e) × (step m c n ≡ Err (commands.code_of e)))
        → (◌≡◌ {A = Result T ProjectError} (Err r) (Err GenerationsSpent))
        ⊎ (◌≡◌ {A = Result T ProjectError} (Err r) (Err OutOfMemory))
    at (inl (memory, ok)) = inr (ap (λ (x : ProjectError). the_err x) memory)
    at (inr (refused, bad)) =
        let same : c ≡ a.command = project_spelling-one c a.command range a.range (sym line_is ∙ a.line_is) in
        absurd (err_ok (commands.code_of e) (new, k) (step m c n) bad (ap (λ (d : ProjectCommand). step m d n) same ∙ a.stepped))

-- a call that is refused by the device alone
pub device_or : {T : Type 0} (Q P : Type 0) (r : Result T ProjectError) → IfErr r (λ e. e ≡ Device) → IfErr r (λ e. Q → (e ≡ Device) ⊎ P)
device_or {T = T} Q P (Ok t) device = device
device_or {T = T} Q P (Err e) device = λ go. inl device
