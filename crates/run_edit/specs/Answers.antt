-- The answer to a line over maps in memory, and the maps after it (docs/COMMANDS.md, "Answers and
-- queries").
use Rattle.std.specs.Prelude.{◌≡◌, ◌≢◌, ◌⊎◌, ℕ, List, MatchOption, Result, Ok, Err}
use Rattle.map_tables.specs.Projects.{ProjectMaps}
use Rattle.map_commands.specs.Errors.{code_of}
use Rattle.map_commands.specs.ProjectLines.{Accepts, EndsLine}
use Rattle.map_commands.specs.ProjectReadiness.{project_need_of}
use Rattle.map_tables.specs.Outcomes.{no_need}
use Rattle.map_commands.specs.declared.error.CommandError.{CommandError}
use Rattle.run_edit.specs.Queries.{IsAnswer, TakesMemory, query_of}
use Rattle.run_edit.specs.Runs.{Replies}
use Rattle.run_edit.specs.Texts.{outcome_text}

-- the text is the answer to a line, a query or a command; and the maps after it
abbrev pub AnswersInMemory : ℕ → ProjectMaps → List ℕ → List ℕ → ProjectMaps → Type 0
AnswersInMemory cap old line text new =
    MatchOption (query_of line) ((outcome : Result ℕ ℕ) × EndsLine cap old line outcome new
    × (text ≡ outcome_text outcome))
    (λ q. IsAnswer old q.1 text × (new ≡ old))

-- the line is an accepted command that adds items to the current map
pub record AddsItems (cap : ℕ) (old : ProjectMaps) (line : List ℕ) : Type 0 where
  pub new : ProjectMaps
  pub number : ℕ
  pub accepts : Accepts cap old line new number
  pub adds : project_need_of accepts.command ≢ no_need

-- the line can need memory: a query whose answer is built in memory, or a command that adds items
abbrev pub NeedsMemory : ℕ → ProjectMaps → List ℕ → Type 0
NeedsMemory cap old line =
    MatchOption (query_of line) (AddsItems cap old line) (λ q. TakesMemory q.1)

-- there is no memory for such a line, and the maps stay
abbrev pub LacksMemory : ℕ → ProjectMaps → List ℕ → ProjectMaps → Type 0
LacksMemory cap old line new = NeedsMemory cap old line × (new ≡ old)

-- what may be answered to a line over maps in memory, and the maps after it
abbrev pub RepliesInMemory : ℕ → ProjectMaps → List ℕ → List ℕ → ProjectMaps → Type 0
RepliesInMemory cap = Replies (AnswersInMemory cap) (LacksMemory cap)

-- how a line that is no query changed the maps: as its outcome says, or not at all for lack of
-- memory
abbrev pub ChangesBy : ℕ → ProjectMaps → List ℕ → Result ℕ ℕ → ProjectMaps → Type 0
ChangesBy cap old line outcome new =
    EndsLine cap old line outcome new ⊎ ((outcome ≡ Err 31) × AddsItems cap old line × (new ≡ old))

-- the outcome of a command: its number, or the refusal's code
abbrev pub outcome_of : Result ℕ CommandError → Result ℕ ℕ
outcome_of (Ok n) = Ok n
outcome_of (Err error) = Err (code_of error)
