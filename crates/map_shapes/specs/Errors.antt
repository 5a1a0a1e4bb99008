-- The numbers of the refusals of shapes.
use Rattle.std.specs.Prelude.{◌≡◌, ◌⊎◌, ℕ, Option, Some, None, Result, MatchResult}
use Rattle.map_areas.specs.Errors as of_areas
use Rattle.map_commands.specs.Errors as of_commands
use Rattle.map_commands.specs.declared.error.CommandError.TheVariants as command_error
use Rattle.map_shapes.specs.declared.error.ShapeError.{ShapeError}
use Rattle.map_shapes.specs.declared.error.ShapeError.TheVariants.{Command, Area, NoDoor}

-- the number of a refusal: a command's has the number that it has there, and so has an area's
abbrev pub code_of : ShapeError → ℕ
code_of (Command e) = of_commands.code_of e
code_of (Area e) = of_areas.code_of e
code_of (NoDoor n) = 29

-- there was no memory
abbrev pub no_memory : ShapeError
no_memory = Command command_error.OutOfMemory

-- the call ended Ok where there is no fault, and else with the fault's number, or for lack of memory
abbrev pub TellsShapeFault : {X : Type 0} → Result X ShapeError → Option ℕ → Type 0
TellsShapeFault result fault =
    MatchResult result (λ _. fault ≡ None)
    (λ e. (e ≡ no_memory) ⊎ (fault ≡ Some (code_of e)))
