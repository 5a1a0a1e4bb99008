-- Lines that are decided one after another, and then put on the disk and answered together.
use Rattle.std.specs.Prelude.{◌≡◌, false, ℕ, List, [], ◌∷◌, ◌++◌, map, Option, Some, None, Result, Ok, Err}
use Rattle.map_tables.specs.Projects.{ProjectMaps, project_of}
use Rattle.map_commands.specs.ProjectLines.{Accepts}
use Rattle.store_project.specs.Groups.{CanPut, GroupState, RefusesStage, Staged}
use Rattle.store_project.specs.Refusals.{code_of}
use Rattle.store_project.specs.States.{State}
use Rattle.store_project.specs.declared.error.ProjectError.{ProjectError}
use Rattle.run_edit.specs.Queries.{query_of}
use Rattle.run_edit.specs.Runs.{Exchange}
use Rattle.run_edit.specs.Texts.{outcome_text}
use Rattle.run_edit.specs.declared.batch.Batch.{Batch}
use Rattle.run_edit.specs.declared.fate.Fate.{Fate}
use Rattle.run_edit.specs.declared.fate.Fate.TheVariants.{Kept, Lost, Stuck}

-- a line that was decided, and its outcome
pub record Decided : Type 0 where
  pub line : List ℕ
  pub outcome : Result ℕ ℕ

-- the line before these, if it was accepted
abbrev pub staged_before : List ℕ → Result ℕ ℕ → List Staged → List Staged
staged_before line (Ok n) staged = record { line = line; number = n } ∷ staged
staged_before line (Err code) staged = staged

-- the lines that were accepted
abbrev pub staged_of : List Decided → List Staged
staged_of [] = []
staged_of (d ∷ ds) = staged_before d.line d.outcome (staged_of ds)

-- each line with the text of its outcome
abbrev pub exchanges : List Decided → List Exchange
exchanges ds = map (λ d. record { line = d.line; text = outcome_text d.outcome }) ds

-- ---- What becomes of them

-- an outcome as it is answered: if the lines are lost, the first accepted one is answered `no 30`
abbrev pub told_as : Fate → Result ℕ ℕ → Result ℕ ℕ
told_as Kept outcome = outcome
told_as Lost (Ok n) = Err 30
told_as Lost (Err code) = Err code
told_as Stuck outcome = Err 32

-- what becomes of the lines behind it: behind `no 30` each is answered `no 32`
abbrev pub fate_behind : Fate → Result ℕ ℕ → Fate
fate_behind Kept outcome = Kept
fate_behind Lost (Ok n) = Stuck
fate_behind Lost (Err code) = Lost
fate_behind Stuck outcome = Stuck

-- what becomes of lines by how they were put
abbrev pub fate_of : Result Unit ProjectError → Fate
fate_of (Ok _) = Kept
fate_of (Err e) = Lost

-- the lines with their outcomes as they are answered
abbrev pub as_answered : Fate → List Decided → List Decided
as_answered fate [] = []
as_answered fate (d ∷ ds) =
    record { line = d.line; outcome = told_as fate d.outcome }
    ∷ as_answered (fate_behind fate d.outcome) ds

-- the outcomes alone
abbrev pub settled_outcomes : Fate → List (Result ℕ ℕ) → List (Result ℕ ℕ)
settled_outcomes fate [] = []
settled_outcomes fate (outcome ∷ outcomes) =
    told_as fate outcome ∷ settled_outcomes (fate_behind fate outcome) outcomes

-- ---- How they are decided

-- a line was decided over these maps: it was accepted, or refused with the maps as they were
abbrev pub Decides : ℕ → ProjectMaps → List ℕ → Result ℕ ℕ → ProjectMaps → Type 0
Decides cap old line (Ok n) new = Accepts cap old line new n
Decides cap old line (Err code) new = (new ≡ old)
    × ((e : ProjectError) × (code ≡ code_of e) × RefusesStage e cap old line)

-- these lines, none of them a query, were decided in turn
abbrev pub DecidesAll : ℕ → ProjectMaps → List Decided → ProjectMaps → Type 0
DecidesAll cap old [] new = new ≡ old
DecidesAll cap old (d ∷ ds) new =
    (mid : ProjectMaps) × (query_of d.line ≡ None) × Decides cap old d.line d.outcome mid
    × DecidesAll cap mid ds new

-- these lines wait: they were decided over the project's maps, in order, and the accepted ones are
-- in the group
pub record IsWaiting {D : Type 0} (project : State D) (batch : Batch) (lines : List (List ℕ)) :
    Type 0 where
  pub ready : project.must_reopen ≡ false
  pub decided : List Decided
  pub asked : map (λ d. d.line) decided ≡ lines
  pub outcomes : map (λ d. d.outcome) decided ≡ batch.outcomes
  pub can : CanPut project batch.group (staged_of decided)
  pub leads : DecidesAll project.cap (project_of project.maps) decided (project_of batch.group.maps)

-- the group is empty, and the project needn't be opened again
abbrev pub IsEmptyFor : {D : Type 0} → State D → GroupState → Type 0
IsEmptyFor project group = (project.must_reopen ≡ false) × CanPut project group []

-- these lines wait, if any do
abbrev pub Waits : {D : Type 0} → State D → Option Batch → List (List ℕ) → Type 0
Waits project None lines = lines ≡ []
Waits project (Some batch) lines = IsWaiting project batch lines
