-- How an `apply` ends, from how its last step ends.
use Rattle.std.proofs.Common.{◌≡◌, ◌⊎◌, inl, inr, ◌≤◌, ℕ, false, List, length, Option, None, Some, MatchOption, Result, Ok, Err, IsOk, OnOk, refl, sym, ◌∙◌, ap, subst, arith}
use Rattle.std.proofs.lemmas.Bool.{true≢false}
use Rattle.store_disk.specs.Stops.{Rose}
use Rattle.store_disk.specs.declared.disk.Disk.{Ghosts}
use Rattle.store_journal.specs.State.{IsAbove}
use Rattle.map_tables.specs.Projects.{ProjectMaps, project_of}
use Rattle.map_commands.specs.ProjectCommands.{InProjectRange}
use Rattle.map_commands.specs.ProjectGrammar.{project_fault_of}
use Rattle.map_commands.specs.ProjectCommands.{project_spelling}
use Rattle.map_commands.specs.ProjectStep.{step}
use Rattle.map_commands.specs.Errors as commands
use Rattle.map_commands.specs.ProjectReadiness as readiness
use Rattle.map_commands.specs.declared.project.command.ProjectCommand.{ProjectCommand}
use Rattle.map_commands.specs.declared.error.CommandError.{CommandError}
use Rattle.map_commands.specs.declared.error.CommandError.TheVariants as command
use Rattle.map_commands.specs.ProjectLines.{Accepts, LeadsTo}
use Rattle.map_commands.proofs.ProjectSteps.{refused-by}
use Rattle.store_project.proofs.LineFaults.{low_fault}
use Rattle.store_project.specs.Groups.{RefusesStage}
use Rattle.store_project.specs.States.{State}
use Rattle.store_project.specs.Outcomes.{EndsApply, RefusesApply, RefusesCheckpoint, TurnsWhereFull}
use Rattle.map_commands.specs.ProjectLines.{RefusesCommand, RefusesLine}
use Rattle.store_project.specs.Refusals.{IsRefusalOf}
use Rattle.store_project.specs.declared.error.ProjectError.{ProjectError}
use Rattle.store_project.specs.declared.error.ProjectError.TheVariants.{Device, OutOfMemory, Reopen, GenerationsSpent, Refused, Damaged, Blank, NotAProject, NotEmpty, BadGeometry}

pub rose_before : (a b n : ℕ) → a ≤ b → b ≤ n → Rose b n → Rose a n
rose_before a b n low high rose short = grind (arith, low, high, rose, short)

module _ {D : Type 0} (facts : Ghosts D) (old mid new : State D) (line : List ℕ)
    (map_is : (project_of mid.maps) ≡ (project_of old.maps)) (cap_is : mid.cap ≡ old.cap)
    (ready : old.must_reopen ≡ false) (still : mid.must_reopen ≡ false)
    (first : facts.failures old.disk ≤ facts.failures mid.disk) (second : facts.failures mid.disk ≤ facts.failures new.disk) (room : IsAbove mid.room (length line) → ⊥) where
  line_from : (code : ℕ) → RefusesLine mid.cap (project_of mid.maps) line code → RefusesLine old.cap (project_of old.maps) line code
  line_from code is = subst (λ (k : ℕ). RefusesLine k (project_of old.maps) line code) cap_is (subst (λ (t : ProjectMaps). RefusesLine mid.cap t line code) map_is is)

  refuses_from : (e : ProjectError) → RefusesApply facts e mid new line → RefusesApply facts e old new line
  refuses_from Device (a, b, rose) = (ready, b, rose_before (facts.failures old.disk) (facts.failures mid.disk) (facts.failures new.disk) first second rose)
  refuses_from OutOfMemory (a, b, (next, leads)) =
      (ready, b, (next, subst (λ (k : ℕ). LeadsTo k (project_of old.maps) line next) cap_is (subst (λ (t : ProjectMaps). LeadsTo mid.cap t line next) map_is leads)))
  refuses_from Reopen (a, b) = absurd (true≢false (sym a ∙ still))
  refuses_from GenerationsSpent (a, b, spent, above, leads) = absurd (room above)
  refuses_from (Refused e) (a, b, is) = (ready, b, line_from (commands.code_of e) is)
  refuses_from (Damaged place) is = absurd is
  refuses_from Blank is = absurd is
  refuses_from NotAProject is = absurd is
  refuses_from NotEmpty is = absurd is
  refuses_from BadGeometry is = absurd is

  pub ends_from : (r : Result ℕ ProjectError) → EndsApply facts r mid new line → EndsApply facts r old new line
  ends_from (Ok n) (a, b, accepts) = (
    ready,
    b,
    subst (λ (k : ℕ). Accepts k (project_of old.maps) line (project_of new.maps) n) cap_is
        (subst (λ (t : ProjectMaps). Accepts mid.cap t line (project_of new.maps) n) map_is accepts),
  )
  ends_from (Err e) (same, refuses) = (same ∙ map_is, refuses_from e refuses)

-- what a refusal of a command becomes
pub split : (e : CommandError) (r : ProjectError) (change : Result (ProjectMaps × ℕ) ℕ) → IsRefusalOf r e → readiness.RefusesStep e change
    → ((r ≡ OutOfMemory) × IsOk change) ⊎ ((r ≡ Refused e) × (change ≡ Err (commands.code_of e)))
split command.OutOfMemory r change is by = inl (is, by)
split command.NotACommand r change is by = inr (is, by)
split command.OutOfRange r change is by = inr (is, by)
split command.NoVertex r change is by = inr (is, by)
split command.NoSector r change is by = inr (is, by)
split command.NoSide r change is by = inr (is, by)
split command.NoLine r change is by = inr (is, by)
split command.NoThing r change is by = inr (is, by)
split command.InUse r change is by = inr (is, by)
split command.SameEnds r change is by = inr (is, by)
split command.PlaceTaken r change is by = inr (is, by)
split command.TwoSidedWithoutLeft r change is by = inr (is, by)
split command.TableFull r change is by = inr (is, by)
split command.LineTooLong r change is by = inr (is, by)
split command.ProjectFull r change is by = inr (is, by)
split command.BadName r change is by = inr (is, by)
split command.TooManyMaps r change is by = inr (is, by)
split command.MapNameTaken r change is by = inr (is, by)
split command.NoSuchMap r change is by = inr (is, by)
split command.CurrentMap r change is by = inr (is, by)

-- a command that the step accepts
accepted_leads : (n : ℕ) (m : ProjectMaps) (line : List ℕ) (c : ProjectCommand) → InProjectRange c → line
    ≡ project_spelling c → (change : Result (ProjectMaps × ℕ) ℕ) → step m c n ≡ change → IsOk change
    → (next : ProjectMaps) × LeadsTo n m line next
accepted_leads n m line c range line_is (Ok new) stepped ok = (new.0, (new.1, record { command = c; range = range; line_is = line_is; stepped = stepped }))
accepted_leads n m line c range line_is (Err e) stepped ok = absurd (true≢false (sym ok))

module _ (n : ℕ) (m : ProjectMaps) (line : List ℕ) (e : CommandError) (r : ProjectError) (is : IsRefusalOf r e) where
  -- a line that is no command is refused as such, and never for lack of memory
  pub fault_told : project_fault_of line ≡ Some (commands.code_of e) → RefusesStage r n m line
  fault_told fault = at (split e r refused is (refused-by e refused (omega (arith, low_fault line (commands.code_of e) fault)) refl))
    where
      refused : Result (ProjectMaps × ℕ) ℕ
      refused = Err (commands.code_of e)

      at : ((r ≡ OutOfMemory) × IsOk refused) ⊎ ((r ≡ Refused e) × (refused ≡ Err (commands.code_of e))) → RefusesStage r n m line
      at (inl (memory, ok)) = absurd (true≢false (sym ok))
      at (inr (told, same)) = subst (λ (q : ProjectError). RefusesStage q n m line) (sym told)
          (subst (λ (o : Option ℕ). MatchOption o (RefusesCommand n m line (commands.code_of e)) (λ f. commands.code_of e ≡ f)) (sym fault) refl)

  -- a command is refused as the step refuses it
  pub step_told : (c : ProjectCommand) → readiness.RefusesStep e (step m c n) → InProjectRange c → line ≡ project_spelling c → project_fault_of line ≡ None → RefusesStage r n m line
  step_told c by range line_is whole = at (split e r (step m c n) is by)
    where
      line_refused : step m c n ≡ Err (commands.code_of e) → RefusesLine n m line (commands.code_of e)
      line_refused stepped =
          subst (λ (o : Option ℕ). MatchOption o (RefusesCommand n m line (commands.code_of e)) (λ fault. commands.code_of e ≡ fault)) (sym whole)
          (record { command = c; range = range; line_is = line_is; stepped = stepped })

      at : ((r ≡ OutOfMemory) × IsOk (step m c n)) ⊎ ((r ≡ Refused e) × (step m c n ≡ Err (commands.code_of e))) → RefusesStage r n m line
      at (inl (memory, ok)) = subst (λ (q : ProjectError). RefusesStage q n m line) (sym memory) (accepted_leads n m line c range line_is (step m c n) refl ok)
      at (inr (refused, stepped)) = subst (λ (q : ProjectError). RefusesStage q n m line) (sym refused) (line_refused stepped)

-- a line that is refused over the maps of a project
module _ {D : Type 0} (facts : Ghosts D) (old new : State D) (line : List ℕ) (ready : old.must_reopen ≡ false) (still : new.must_reopen ≡ false) where
  pub line_refused : (r : ProjectError) → RefusesStage r old.cap (project_of old.maps) line → RefusesApply facts r old new line
  line_refused Device told = absurd told
  line_refused OutOfMemory told = (ready, still, told)
  line_refused Reopen told = absurd told
  line_refused GenerationsSpent told = absurd told
  line_refused (Refused e) told = (ready, still, told)
  line_refused (Damaged place) told = absurd told
  line_refused Blank told = absurd told
  line_refused NotAProject told = absurd told
  line_refused NotEmpty told = absurd told
  line_refused BadGeometry told = absurd told

-- a line for which no room could be made, of a map that accepts it
module _ {D : Type 0} (facts : Ghosts D) (old mid new : State D) (line : List ℕ) (ready : old.must_reopen ≡ false)
    (reopen_is : mid.must_reopen ≡ old.must_reopen) (generation_is : mid.generation ≡ old.generation)
    (room_is : mid.room ≡ old.room) (disk_is : mid.disk ≡ old.disk) (leads : (next : ProjectMaps) × LeadsTo old.cap (project_of old.maps) line next) where
  pub room_refused : (e : ProjectError) → RefusesCheckpoint facts e mid new → IsAbove mid.room (length line) → RefusesApply facts e old new line
  room_refused Device (a, b, rose) above = (ready, b, subst (λ (d : D). Rose (facts.failures d) (facts.failures new.disk)) disk_is rose)
  room_refused OutOfMemory (a, same) above = (ready, ap (λ (s : State D). s.must_reopen) same ∙ a, leads)
  room_refused Reopen (a, same) above = absurd (true≢false (sym a ∙ reopen_is ∙ ready))
  room_refused GenerationsSpent (a, same, last) above = (
    ready,
    ap (λ (s : State D). s.must_reopen) same ∙ a,
    sym generation_is ∙ last,
    subst (λ (r : Option ℕ). IsAbove r (length line)) room_is above,
    leads,
  )
  room_refused (Refused e) is above = absurd is
  room_refused (Damaged place) is above = absurd is
  room_refused Blank is above = absurd is
  room_refused NotAProject is above = absurd is
  room_refused NotEmpty is above = absurd is
  room_refused BadGeometry is above = absurd is

-- a checkpoint comes where there was no room, if what follows it keeps the generation
pub turned_then : {D T : Type 0} (old mid new : State D) (len : ℕ) (r : Result T ProjectError)
    → TurnsWhereFull old mid len → OnOk r (new.generation ≡ mid.generation) → OnOk r (TurnsWhereFull old new len)
turned_then old mid new len (Ok t) turned same = (λ above. same ∙ turned.0 above, λ room. same ∙ turned.1 room)
turned_then old mid new len (Err e) turned same = same
