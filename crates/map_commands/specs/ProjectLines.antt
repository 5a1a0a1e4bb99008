-- What comes of a line over a project: an outcome, which is a number or a code, and a project.
use Rattle.std.specs.Prelude.{◌≡◌, ℕ, List, [], ◌∷◌, Result, Ok, Err, MatchOption}
use Rattle.map_tables.specs.Projects.{ProjectMaps}
use Rattle.map_commands.specs.ProjectCommands.{InProjectRange, project_spelling}
use Rattle.map_commands.specs.ProjectGrammar.{project_fault_of}
use Rattle.map_commands.specs.ProjectStep.{step}
use Rattle.map_commands.specs.declared.project.command.ProjectCommand.{ProjectCommand}

-- the line is a command that the project accepts, and which leads to the new project with this
-- number
pub record Accepts (cap : ℕ) (old : ProjectMaps) (line : List ℕ) (new : ProjectMaps) (number : ℕ) :
    Type 0 where
  pub command : ProjectCommand
  pub range : InProjectRange command
  pub line_is : line ≡ project_spelling command
  pub stepped : step old command cap ≡ Ok (new, number)

-- the line is a command that the project refuses with this code
pub record RefusesCommand (cap : ℕ) (old : ProjectMaps) (line : List ℕ) (code : ℕ) : Type 0 where
  pub command : ProjectCommand
  pub range : InProjectRange command
  pub line_is : line ≡ project_spelling command
  pub stepped : step old command cap ≡ Err code

-- the line is refused with this code: as a line, or by the project
abbrev pub RefusesLine : ℕ → ProjectMaps → List ℕ → ℕ → Type 0
RefusesLine cap old line code =
    MatchOption (project_fault_of line) (RefusesCommand cap old line code) (λ fault. code ≡ fault)

-- the outcome of a line: the number of its command with the project that it leads to, or a code
-- with the project as it was
abbrev pub EndsLine : ℕ → ProjectMaps → List ℕ → Result ℕ ℕ → ProjectMaps → Type 0
EndsLine cap old line (Ok number) new = Accepts cap old line new number
EndsLine cap old line (Err code) new = RefusesLine cap old line code × (new ≡ old)

-- the line leads from one project to the other, with some number
abbrev pub LeadsTo : ℕ → ProjectMaps → List ℕ → ProjectMaps → Type 0
LeadsTo cap old line new = (number : ℕ) × Accepts cap old line new number

-- the fold: the lines lead from one project to the other, each accepted
abbrev pub Leads : ℕ → ProjectMaps → List (List ℕ) → ProjectMaps → Type 0
Leads cap old [] new = new ≡ old
Leads cap old (line ∷ lines) new = (mid : ProjectMaps) × LeadsTo cap old line mid
    × Leads cap mid lines new
