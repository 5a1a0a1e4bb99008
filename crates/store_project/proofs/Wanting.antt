-- When there is no memory for a line.
use Rattle.std.proofs.Common.{◌≡◌, ℕ, Bool, true, false, List, Some, Result, Err, IfErr, refl, sym, ◌∙◌, ap, subst, arith}
use Rattle.std.proofs.lemmas.Bool.{true≢false}
use Rattle.map_tables.specs.Outcomes.{Covers}
use Rattle.map_tables.specs.Tables.{Counts}
use Rattle.map_tables.specs.declared.edit.Need.{Need}
use Rattle.map_commands.specs.Errors as commands
use Rattle.map_commands.specs.ProjectCommands.{InProjectRange, project_spelling}
use Rattle.map_commands.specs.ProjectGrammar.{project_fault_of}
use Rattle.map_commands.specs.ProjectReadiness.{project_need_of}
use Rattle.map_tables.specs.Outcomes.{no_need}
use Rattle.map_commands.specs.declared.error.CommandError.{CommandError}
use Rattle.map_commands.specs.declared.error.CommandError.TheVariants as command
use Rattle.map_commands.specs.declared.project.command.ProjectCommand.{ProjectCommand}
use Rattle.store_project.specs.Outcomes.{IsAddition}
use Rattle.store_project.specs.Refusals.{IsRefusalOf, code_of}
use Rattle.store_project.specs.declared.error.ProjectError.{ProjectError}
use Rattle.store_project.specs.declared.error.ProjectError.TheVariants.{Device, OutOfMemory, Reopen, GenerationsSpent, Refused, Damaged, Blank, NotAProject, NotEmpty, BadGeometry}
use Rattle.store_project.proofs.LineFaults.{low_fault}
use Rattle.store_project.proofs.Spent.{error_in}

abbrev lacks : ProjectError → Bool
lacks OutOfMemory = true
lacks Device = false
lacks Reopen = false
lacks GenerationsSpent = false
lacks (Refused e) = false
lacks (Damaged place) = false
lacks Blank = false
lacks NotAProject = false
lacks NotEmpty = false
lacks BadGeometry = false

other : (e : CommandError) (r : ProjectError) → r ≡ Refused e → r ≡ OutOfMemory → ⊥
other e r is memory = true≢false (sym (ap lacks memory) ∙ ap lacks is)

-- lack of memory is that of the command
of_command : (e : CommandError) (r : ProjectError) → IsRefusalOf r e → r ≡ OutOfMemory → e ≡ command.OutOfMemory
of_command command.OutOfMemory r is memory = refl
of_command command.NotACommand r is memory = absurd (other command.NotACommand r is memory)
of_command command.OutOfRange r is memory = absurd (other command.OutOfRange r is memory)
of_command command.NoVertex r is memory = absurd (other command.NoVertex r is memory)
of_command command.NoSector r is memory = absurd (other command.NoSector r is memory)
of_command command.NoSide r is memory = absurd (other command.NoSide r is memory)
of_command command.NoLine r is memory = absurd (other command.NoLine r is memory)
of_command command.NoThing r is memory = absurd (other command.NoThing r is memory)
of_command command.InUse r is memory = absurd (other command.InUse r is memory)
of_command command.SameEnds r is memory = absurd (other command.SameEnds r is memory)
of_command command.PlaceTaken r is memory = absurd (other command.PlaceTaken r is memory)
of_command command.TwoSidedWithoutLeft r is memory = absurd (other command.TwoSidedWithoutLeft r is memory)
of_command command.TableFull r is memory = absurd (other command.TableFull r is memory)
of_command command.LineTooLong r is memory = absurd (other command.LineTooLong r is memory)
of_command command.ProjectFull r is memory = absurd (other command.ProjectFull r is memory)
of_command command.BadName r is memory = absurd (other command.BadName r is memory)
of_command command.TooManyMaps r is memory = absurd (other command.TooManyMaps r is memory)
of_command command.MapNameTaken r is memory = absurd (other command.MapNameTaken r is memory)
of_command command.NoSuchMap r is memory = absurd (other command.NoSuchMap r is memory)
of_command command.CurrentMap r is memory = absurd (other command.CurrentMap r is memory)

the_error : {T : Type 0} (r : ProjectError) → ◌≡◌ {A = Result T ProjectError} (Err r) (Err OutOfMemory) → r ≡ OutOfMemory
the_error {T = T} r is = ap (λ (x : Result T ProjectError). error_in Device x) is

-- a line that is no command lacks no memory
pub no_command : {T : Type 0} (line : List ℕ) (e : CommandError) (r : ProjectError) → IsRefusalOf r e → project_fault_of line ≡ Some (commands.code_of e)
    → ◌≡◌ {A = Result T ProjectError} (Err r) (Err OutOfMemory) → ⊥
no_command line e r refused fault is =
    let low = low_fault line (commands.code_of e) fault in
    let code : commands.code_of e ≡ 31 = ap commands.code_of (of_command e r refused (the_error r is)) in
    omega (arith, low, code)

covers_none : (spare : Counts) (need : Need) → need ≡ no_need → Covers spare need
covers_none spare need none =
    subst (λ (n : Need). Covers spare n) (sym none)
    (record { vertices = omega arith; sectors = omega arith; sides = omega arith; lines = omega arith; things = omega arith })

-- a command that lacks memory adds items
pub adds_items : {T U : Type 0} (line : List ℕ) (c : ProjectCommand) (spare : Counts) (e : CommandError) (r : ProjectError) → InProjectRange c → line ≡ project_spelling c → IsRefusalOf r e
    → (Covers spare (project_need_of c) → ◌≡◌ {A = Result U CommandError} (Err e) (Err command.OutOfMemory) → ⊥)
    → ◌≡◌ {A = Result T ProjectError} (Err r) (Err OutOfMemory) → IsAddition line
adds_items {T = T} {U = U} line c spare e r range line_is refused promised is = record {
  command = c;
  range = range;
  line_is = line_is;
  adds = λ nothing. promised (covers_none spare (project_need_of c) nothing) (ap (λ (x : CommandError). the_err x) (of_command e r refused (the_error r is)));
}
  where
    the_err : CommandError → Result U CommandError
    the_err x = Err x

-- a call that is refused by the device alone lacks no memory
pub device_alone : {T : Type 0} (r : Result T ProjectError) → IfErr r (λ e. e ≡ Device) → r ≡ Err OutOfMemory → ⊥
device_alone {T = T} r device is =
    let same : OutOfMemory ≡ Device = subst (λ (q : Result T ProjectError). IfErr q (λ e. e ≡ Device)) is device in
    let codes : 31 ≡ 30 = ap code_of same in
    omega (arith, codes)
