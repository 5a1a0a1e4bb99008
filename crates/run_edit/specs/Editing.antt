-- The answer to a single line over a project, and the project after it (docs/COMMANDS.md, "Answers
-- and queries").
use Rattle.std.specs.Prelude.{◌≡◌, ◌⊎◌, ℕ, Bool, true, false, List, MatchOption, Result, Ok, Err}
use Rattle.store_disk.specs.declared.disk.Disk.{Ghosts}
use Rattle.map_tables.specs.Projects.{ProjectMaps, project_of}
use Rattle.store_project.specs.Calls.{Applies}
use Rattle.store_project.specs.Refusals.{code_of}
use Rattle.store_project.specs.States.{State}
use Rattle.store_project.specs.declared.error.ProjectError.{ProjectError}
use Rattle.run_edit.specs.Queries.{IsAnswer, TakesMemory, query_of}
use Rattle.run_edit.specs.Runs.{Replies}
use Rattle.run_edit.specs.Texts.{outcome_text, refused_text}
use Rattle.run_edit.specs.declared.query.Query.{Query}

-- the maps as the lines so far were answered, how long their body may be, and whether the project
-- must be reopened
pub record Told : Type 0 where
  pub maps : ProjectMaps
  pub cap : ℕ
  pub must_reopen : Bool

-- the same of a project
abbrev pub told_of : {D : Type 0} → State D → Told
told_of project = record {
  maps = project_of project.maps;
  cap = project.cap;
  must_reopen = project.must_reopen;
}

-- the outcome of a line that was tried: its number, or the refusal's code
abbrev pub outcome_in : Result ℕ ProjectError → Result ℕ ℕ
outcome_in (Ok n) = Ok n
outcome_in (Err error) = Err (code_of error)

-- the text is the answer to a query: `no 32` if the project must be reopened, and else an answer
-- about its maps as they are
abbrev pub AnswersQuery : Told → Query → List ℕ → Type 0
AnswersQuery told query text = ((told.must_reopen ≡ true) × (text ≡ refused_text 32))
    ⊎ ((told.must_reopen ≡ false) × IsAnswer told.maps query text)

-- the answer to a query is built in memory, and the project needn't be reopened
abbrev pub MayLack : Told → Query → Type 0
MayLack told query = (told.must_reopen ≡ false) × TakesMemory query

-- what may be answered to a query: its answer, or `no 31` if that takes memory
abbrev pub RepliesToQuery : Told → Query → List ℕ → Type 0
RepliesToQuery told query text =
    AnswersQuery told query text ⊎ (MayLack told query × (text ≡ refused_text 31))

-- a line that is no query: `apply` met its contract for the line, and the text is its outcome
abbrev pub IsTold : {D : Type 0} → Ghosts D → State D → List ℕ → List ℕ → State D → Type 0
IsTold facts old line text new =
    (answer : Result ℕ ProjectError) × Applies facts old line answer new
    × (text ≡ outcome_text (outcome_in answer))

-- the text is the answer to a line over a project; and the project after it
abbrev pub AnswersInProject : {D : Type 0} → Ghosts D → State D → List ℕ → List ℕ → State D → Type 0
AnswersInProject facts old line text new =
    MatchOption (query_of line) (IsTold facts old line text new)
    (λ q. AnswersQuery (told_of old) q.1 text × (new ≡ old))

-- the line is a query for which there is no memory, and the project stays
abbrev pub LacksInProject : {D : Type 0} → State D → List ℕ → State D → Type 0
LacksInProject old line new =
    MatchOption (query_of line) ⊥ (λ q. MayLack (told_of old) q.1) × (new ≡ old)

-- what may be answered to a line over a project, and the project after it
abbrev pub RepliesInProject : {D : Type 0} → Ghosts D → State D → List ℕ → List ℕ → State D → Type 0
RepliesInProject facts = Replies (AnswersInProject facts) LacksInProject
