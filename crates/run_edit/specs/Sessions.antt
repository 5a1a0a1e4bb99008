-- What the disk of a project holds while lines are answered, and at the end of a run.
use Rattle.std.specs.Prelude.{◌≡◌, ◌⊎◌, ℕ, true, false, All, List, [], ◌∷◌, ◌++◌, MatchOption, None, Result}
use mathlib.Core.Logic.{inl, inr}
use Rattle.store_disk.specs.Moments.{LeavesOnly}
use Rattle.store_disk.specs.Stops.{Each}
use Rattle.store_disk.specs.declared.disk.Disk.{Ghosts}
use Rattle.map_tables.specs.Projects.{ProjectMaps, project_of}
use Rattle.map_commands.specs.Errors as commands
use Rattle.map_commands.specs.ProjectLines.{Leads}
use Rattle.map_commands.specs.declared.error.CommandError.{CommandError}
use Rattle.store_project.specs.Calls.{AllMade, ProjectCall, Made}
use Rattle.store_project.specs.Calls.ProjectCall.{Apply, Checkpoint, Put}
use Rattle.store_project.specs.Sessions.{KeepsAcknowledged, Session}
use Rattle.store_project.specs.Stands.{StandsFor}
use Rattle.store_project.specs.States.{State, IsProjectKept}
use Rattle.run_edit.specs.Editing.{outcome_in, told_of}
use Rattle.run_edit.specs.Groups.{Decided, exchanges, fate_of, as_answered, staged_of}
use Rattle.run_edit.specs.Queries.{query_of}
use Rattle.run_edit.specs.Runs.{Exchange, IsTrace, lines_in}
use Rattle.run_edit.specs.Texts.{outcome_text, refused_text}
use Rattle.run_edit.specs.Told.{RepliesTold}

-- ---- The calls of a run

-- a line that made no call: a query, or a line that was refused in a group
abbrev pub MakesNoCall : Exchange → Type 0
MakesNoCall e = MatchOption (query_of e.line)
    ((error : CommandError) × (e.text ≡ refused_text (commands.code_of error))) (λ q. Unit {0})

-- these lines were answered by the call: by `apply` its line with its outcome; by `put` the lines
-- that were decided in the group, as they were if it was good, and else as those of a lost group
abbrev pub AreOfCall : List Exchange → ProjectCall → Type 0
AreOfCall trace (Apply line answer) = (query_of line ≡ None)
    × (trace ≡ record { line = line; text = outcome_text (outcome_in answer) } ∷ [])
AreOfCall trace (Put staged answer) = (decided : List Decided) × (staged ≡ staged_of decided)
    × (trace ≡ exchanges (as_answered (fate_of answer) decided))
AreOfCall trace (Checkpoint answer) = ⊥

-- the calls that these lines made, in order: each call comes behind some lines that made none, and
-- before the lines behind it, so that no line was answered `ok` before its call was made
abbrev pub AreCalls : List Exchange → List ProjectCall → Type 0
AreCalls trace [] = All MakesNoCall trace
AreCalls trace (call ∷ calls) =
    (quiet its rest : List Exchange) × (trace ≡ quiet ++ (its ++ rest))
    × All MakesNoCall quiet × AreOfCall its call × AreCalls rest calls

-- ---- The moments of a run

-- the file stands for the maps after a prefix of the accepted commands that holds every
-- acknowledged one
abbrev pub HoldsAcknowledged : ℕ → ProjectMaps → Session → List ℕ → Type 0
HoldsAcknowledged cap base s file =
    (maps : ProjectMaps) × KeepsAcknowledged cap base s maps × StandsFor cap maps file

-- For each moment between two calls at which the project needn't be reopened: from then on each
-- image stands for the maps after a prefix of the accepted commands that holds every command
-- acknowledged up to the moment.
abbrev pub HoldsThroughout : {D : Type 0} → Ghosts D → State D → List ProjectCall → State D → Type 0
HoldsThroughout {D = D} facts old calls new =
    (front back : List ProjectCall) (mid : State D) → calls ≡ front ++ back → mid.must_reopen
    ≡ false
    → AllMade facts old front mid → AllMade facts mid back new
    → LeavesOnly facts mid.disk new.disk
    (HoldsAcknowledged old.cap (project_of old.maps) (record { front = front; back = back }))

-- ---- The exit of a run

-- each of these lines was answered `no 32`
abbrev pub AllReopen : List Exchange → Type 0
AllReopen [] = Unit {0}
AllReopen (e ∷ trace) = (e.text ≡ refused_text 32) × AllReopen trace

-- these lines stand among those, in the same order
abbrev pub AreAmong : List (List ℕ) → List (List ℕ) → Type 0
AreAmong [] all = Unit {0}
AreAmong (line ∷ lines) [] = ⊥
AreAmong (line ∷ lines) (other ∷ all) = ((line ≡ other) × AreAmong lines all)
    ⊎ AreAmong (line ∷ lines) all

-- the file stands for the maps, or for those after all of these lines
abbrev pub IsOutcomeOfAll : ℕ → ProjectMaps → List (List ℕ) → List ℕ → Type 0
IsOutcomeOfAll cap maps lines file = StandsFor cap maps file
    ⊎ ((new : ProjectMaps) × Leads cap maps lines new × StandsFor cap new file)

-- A line was answered `no 30` and every later one `no 32`. Each image stands for the maps, or for the
-- maps after that line and all of those behind it that were to be put with it.
pub record IsInDoubt {D : Type 0} (facts : Ghosts D) (trace : List Exchange) (new : State D) :
    Type 0 where
  pub front : List Exchange
  pub faulted : Exchange
  pub back : List Exchange
  pub split : trace ≡ front ++ faulted ∷ back
  pub answered : faulted.text ≡ refused_text 30
  pub behind : AllReopen back
  pub more : List (List ℕ)
  pub among : AreAmong more (lines_in back)
  pub images : Each (facts.may_leave new.disk)
      (IsOutcomeOfAll new.cap (project_of new.maps) (faulted.line ∷ more))

-- Some lines were answered in turn. Their answers tell of the maps, and their calls met their
-- contracts. A project that must be reopened stays as it is.
pub record GoesOver {D : Type 0} (facts : Ghosts D) (old : State D) (trace : List Exchange)
    (new : State D) : Type 0 where
  pub told : IsTrace RepliesTold (told_of old) trace (told_of new)
  pub calls : List ProjectCall
  pub are : AreCalls trace calls
  pub made : AllMade facts old calls new
  pub kept : IsProjectKept facts old → IsProjectKept facts new
  pub in_doubt : old.must_reopen ≡ false → new.must_reopen ≡ true → IsInDoubt facts trace new
  pub reopen : old.must_reopen ≡ true → (new ≡ old) × AllReopen trace

-- What a run leaves. Its lines are calls, each of which met its contract. A project that must be
-- reopened stays as it is, and every answer is `no 32`. Otherwise each image has every acknowledged
-- command, at every moment and at the exit.
pub record RunsOver {D : Type 0} (facts : Ghosts D) (old new : State D) (trace : List Exchange) :
    Type 0 where
  pub calls : List ProjectCall
  pub are : AreCalls trace calls
  pub made : AllMade facts old calls new
  pub any_moment : old.must_reopen ≡ false → HoldsThroughout facts old calls new
  pub kept : IsProjectKept facts new
  pub in_doubt : old.must_reopen ≡ false → new.must_reopen ≡ true → IsInDoubt facts trace new
  pub reopen : old.must_reopen ≡ true → (new ≡ old) × AllReopen trace

-- ---- Sessions with runs

-- one step of a session: a call of `apply`, `checkpoint` or `put` with its result, or a run with its
-- lines and their answers
abbrev pub Deed : Type 0 → Type 0
Deed D = ProjectCall ⊎ List Exchange

-- the step was done, and these are its calls
abbrev pub IsDeedDone : {D : Type 0} → Ghosts D → State D → Deed D → List ProjectCall → State D
    → Type 0
IsDeedDone facts old (inl call) calls new = Made facts old call new × (calls ≡ call ∷ [])
IsDeedDone facts old (inr trace) calls new =
    (run : RunsOver facts old new trace) × (calls ≡ run.calls)

-- these steps were done in turn, and these are all their calls
abbrev pub AllDone : {D : Type 0} → Ghosts D → State D → List (Deed D) → List ProjectCall → State D
    → Type 0
AllDone facts old [] calls new = (calls ≡ []) × (new ≡ old)
AllDone {D = D} facts old (deed ∷ deeds) calls new =
    (mid : State D) × (its more : List ProjectCall)
    × IsDeedDone facts old deed its mid × AllDone facts mid deeds more new
    × (calls ≡ its ++ more)
