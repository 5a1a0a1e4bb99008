-- What the answers tell of a project, line by line (docs/COMMANDS.md, "Answers and queries").
use Rattle.std.specs.Prelude.{◌≡◌, ℕ, true, false, List, MatchOption, Result, Ok, Err}
use Rattle.map_tables.specs.Projects.{ProjectMaps}
use Rattle.map_commands.specs.Errors as commands
use Rattle.map_commands.specs.ProjectLines.{Accepts, LeadsTo, RefusesLine}
use Rattle.store_project.specs.declared.error.ProjectError.{ProjectError}
use Rattle.store_project.specs.declared.error.ProjectError.TheVariants.{Device, OutOfMemory, Reopen, GenerationsSpent, Refused}
use Rattle.run_edit.specs.Editing.{AnswersQuery, MayLack, Told, outcome_in}
use Rattle.run_edit.specs.Queries.{query_of}
use Rattle.run_edit.specs.Runs.{Replies}
use Rattle.run_edit.specs.Texts.{outcome_text}

-- the project needn't be reopened, and a refused line leaves it so
abbrev pub StaysReady : Told → Told → Type 0
StaysReady old new = (old.must_reopen ≡ false) × (new ≡ old)

-- How a line was refused. Only after `Device` must the project be reopened, and only `Reopen` leaves
-- it so. Memory is lacking, and generations are spent, only for a line that leads on.
abbrev pub RefusesTold : ProjectError → Told → Told → List ℕ → Type 0
RefusesTold Device old new line = (old.must_reopen ≡ false)
    × (new ≡ record { maps = old.maps; cap = old.cap; must_reopen = true })
RefusesTold OutOfMemory old new line = StaysReady old new
    × ((next : ProjectMaps) × LeadsTo old.cap old.maps line next)
RefusesTold Reopen old new line = (old.must_reopen ≡ true) × (new ≡ old)
RefusesTold GenerationsSpent old new line = StaysReady old new
    × ((next : ProjectMaps) × LeadsTo old.cap old.maps line next)
RefusesTold (Refused e) old new line = StaysReady old new
    × RefusesLine old.cap old.maps line (commands.code_of e)
RefusesTold _ old new line = ⊥

-- how a line that is no query ended: with its command's number and the maps that it leads to, or
-- refused
abbrev pub EndsTold : Result ℕ ProjectError → Told → Told → List ℕ → Type 0
EndsTold (Ok n) old new line = (old.must_reopen ≡ false) × (new.must_reopen ≡ false)
    × (new.cap ≡ old.cap) × Accepts old.cap old.maps line new.maps n
EndsTold (Err e) old new line = RefusesTold e old new line

-- ---- Lines

-- the text is the answer to a line, and what is told then
abbrev pub AnswersTold : Told → List ℕ → List ℕ → Told → Type 0
AnswersTold old line text new =
    MatchOption (query_of line)
    ((answer : Result ℕ ProjectError) × EndsTold answer old new line
    × (text ≡ outcome_text (outcome_in answer)))
    (λ q. AnswersQuery old q.1 text × (new ≡ old))

-- the line is a query for which there is no memory
abbrev pub LacksTold : Told → List ℕ → Told → Type 0
LacksTold old line new = MatchOption (query_of line) ⊥ (λ q. MayLack old q.1) × (new ≡ old)

-- what may be answered to a line over a project, and what is told then
abbrev pub RepliesTold : Told → List ℕ → List ℕ → Told → Type 0
RepliesTold = Replies AnswersTold LacksTold
