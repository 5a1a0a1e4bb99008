-- A drawing over a project is a list of the project's calls.
use Rattle.std.proofs.Common.{◌≡◌, ◌∙◌, ◌⊎◌, inl, inr, ℕ, Bool, false, List, [], ◌∷◌, ◌++◌, Option, Some, None, Result, Ok, Err, refl, sym, ap, subst}
use Rattle.std.specs.Prelude.{MatchOption, is_some}
use Rattle.store_disk.specs.Moments.{LeavesOnly}
use Rattle.store_disk.specs.declared.disk.Disk.{Ghosts}
use Rattle.map_tables.specs.Projects.{empty_project, project_of}
use Rattle.store_project.specs.Calls.{AllMade, Made, ProjectCall, PutsGroup}
use Rattle.store_project.specs.Calls.ProjectCall.{Apply, Checkpoint, Put}
use Rattle.store_project.specs.Groups.{CanPut, GroupState, Staged}
use Rattle.store_project.specs.Sessions.{Creates, HoldsEach, IsLeftBy, KeepEach, Opens, PassInTurn, Passes, Session}
use Rattle.store_project.specs.States.{State}
use Rattle.store_project.specs.declared.error.ProjectError.{ProjectError}
use Rattle.store_project.specs.declared.error.ProjectError.TheVariants.{Device}
use Rattle.run_edit.specs.Composing.{go_behind}
use Rattle.run_edit.proofs.DeedCalls.{go_parted}
use Rattle.run_canvas.specs.Canvases.{TellsBehind, project_canvas}
use Rattle.run_canvas.specs.LossLaws.{no_group}
use Rattle.run_canvas.specs.PutLaws.{settled_same}
use Rattle.run_canvas.specs.Rooms.{BeginsGroup, ClearsJournal, IsCheckpointed, MakesRoom, TurnsFor}
use Rattle.run_canvas.specs.Waiting.{AreWaiting, BeginsLine, ChangesProject, Drawing, Loses, Settles, Stages, first_drawing}
use Rattle.run_script.specs.Drawn.{IsScriptDrawn}
use Rattle.run_script.specs.Stopped.{HoldsAtMoments, session_of}
use Rattle.map_blocks.specs.declared.stop.Stop.{Stop}
use Rattle.run_canvas.specs.declared.error.ScriptError.{ScriptError}
use Rattle.run_script.proofs.Keeping.{AreKept, drawn_keeps}

-- these calls led to the drawing's project, and these commands wait
pub record HasCalls {D : Type 0} (facts : Ghosts D) (first : State D) (d : Drawing D) : Type 0 where
  pub calls : List ProjectCall
  pub made : AllMade facts first calls d.project
  pub staged : List Staged
  pub waits : AreWaiting d staged

module _ {D : Type 0} (facts : Ghosts D) (first : State D) where
  -- one call more, and nothing waits
  one_more : (old new : Drawing D) (call : ProjectCall) → HasCalls facts first old → Made facts old.project call new.project → new.group ≡ None → HasCalls facts first new
  one_more old new call had made none = record {
    calls = had.calls ++ call ∷ [];
    made = go_behind facts had.calls (call ∷ []) first old.project new.project had.made (new.project, made, refl);
    staged = [];
    waits = no_group facts new none;
  }

  -- the same calls
  no_more : (old new : Drawing D) (staged : List Staged) → HasCalls facts first old → new.project ≡ old.project → AreWaiting new staged → HasCalls facts first new
  no_more old new staged had same waits = record {
    calls = had.calls;
    made = subst (λ (s : State D). AllMade facts first had.calls s) (sym same) had.made;
    staged = staged;
    waits = waits;
  }

  settle_at : (old new : Drawing D) (o : Option GroupState) → old.group ≡ o → HasCalls facts first old → Settles facts old new → HasCalls facts first new
  settle_at old new None is had settled = no_more old new [] had (settled_same facts old new is settled) (no_group facts new settled.none)
  settle_at old new (Some g) is had settled =
      let put = subst (λ (o : Option GroupState). MatchOption o (new.project ≡ old.project)
      (λ g. (staged : List Staged) → CanPut old.project g staged → PutsGroup facts old.project staged (Ok tt) new.project)) is settled.put in
      let can = subst (λ (o : Option GroupState). MatchOption o (had.staged ≡ []) (λ g. CanPut old.project g had.staged)) is had.waits in
      one_more old new (Put had.staged (Ok tt)) had (put had.staged can) settled.none

  settle : (old new : Drawing D) → HasCalls facts first old → Settles facts old new → HasCalls facts first new
  settle old new had settled = settle_at old new old.group refl had settled

  lose : (old new : Drawing D) → HasCalls facts first old → Loses facts old new → HasCalls facts first new
  lose old new had lost =
      let (more, put) = lost.put had.staged had.waits in
      one_more old new (Put (had.staged ++ more) (Err Device)) had put lost.none

  stage : (old new : Drawing D) (line : List ℕ) (outcome : Result ℕ ℕ) → HasCalls facts first old → Stages old line outcome new → HasCalls facts first new
  stage old new line (Ok n) had staged = no_more old new (had.staged ++ record { line = line; number = n } ∷ []) had staged.project (staged.waits had.staged had.waits)
  stage old new line (Err code) had (same, refused) = no_more old new had.staged had same.project (same.waits had.staged had.waits)

  change : (old new : Drawing D) (line : List ℕ) (outcome : Result ℕ ℕ) → HasCalls facts first old → ChangesProject facts old line outcome new → HasCalls facts first new
  change old new line outcome had (inl staged) = stage old new line outcome had staged
  change old new line outcome had (inr (inl (why, inl applied))) =
      one_more applied.mid new (Apply line applied.answer) (settle old applied.mid had applied.settled) applied.applied applied.none
  change old new line outcome had (inr (inl (why, inr (is, lost)))) = lose old new had lost
  change old new line outcome had (inr (inr (is, lost))) =
      one_more old new (Put (record { line = line; number = lost.number } ∷ lost.more) (Err Device)) had lost.put lost.none

  -- a line begins, or a query is told
  begin_at : (mid : Drawing D) (b : Bool) → HasCalls facts first mid
      → HasCalls facts first (record { project = mid.project; group = mid.group; has_spare = mid.has_spare; is_alone = b; holds_earlier = is_some mid.group; has_lost = false })
  begin_at mid b had = record { calls = had.calls; made = had.made; staged = had.staged; waits = had.waits }

  settle_if : (old mid : Drawing D) → HasCalls facts first old → (mid ≡ old) ⊎ Settles facts old mid → HasCalls facts first mid
  settle_if old mid had (inl same) = subst (λ (d : Drawing D). HasCalls facts first d) (sym same) had
  settle_if old mid had (inr settled) = settle old mid had settled

  begin : (old new : Drawing D) (place : ℕ) (b : Bool) → HasCalls facts first old → BeginsLine facts old b new → HasCalls facts first new
  begin old new place b had begun = subst (λ (d : Drawing D). HasCalls facts first d) (sym begun.is) (begin_at begun.mid b (settle_if old begun.mid had begun.settled))

  tell : (old new : Drawing D) (line : List ℕ) (refusal : Option ℕ) (u w : Option (List ℕ)) → HasCalls facts first old → TellsBehind facts old line refusal new u w → HasCalls facts first new
  tell old new line refusal u w had (inl (settled, same, told)) = settle old new had settled
  tell old new line refusal u w had (inr (is, lost, kept)) = lose old new had lost

  -- room is made, or refused
  turn : (old new : Drawing D) (answer : Result ℕ ProjectError) → HasCalls facts first old → old.group ≡ None → IsCheckpointed facts old answer new → HasCalls facts first new
  turn old new answer had none turned = one_more old new (Checkpoint answer) had turned.made (ap (λ (d : Drawing D). d.group) turned.others ∙ none)

  turns : (old new : Drawing D) (lines : List (List ℕ)) (refusal : Option ℕ) → HasCalls facts first old → old.group ≡ None → TurnsFor facts old lines refusal new
      → HasCalls facts first new
  turns old new lines None had none (inl (room, same)) = subst (λ (d : Drawing D). HasCalls facts first d) (sym same) had
  turns old new lines None had none (inr (lacks, (n, turned))) = turn old new (Ok n) had none turned
  turns old new lines (Some code) had none (lacks, (e, is, turned)) = turn old new (Err e) had none turned

  same_calls : (old new : Drawing D) → HasCalls facts first old → new ≡ old → HasCalls facts first new
  same_calls old new had same = subst (λ (d : Drawing D). HasCalls facts first d) (sym same) had

  clear : (old new : Drawing D) (lines : List (List ℕ)) (refusal : Option ℕ) → HasCalls facts first old → ClearsJournal facts old lines refusal new → HasCalls facts first new
  clear old new lines None had (inl (room, same)) = same_calls old new had same
  clear old new lines None had (inr (mid, put, turned)) = turns mid new lines None (settle old mid had put.settled) put.settled.none turned
  clear old new lines (Some code) had (inl (is, lacks, gone)) = lose old new had gone
  clear old new lines (Some code) had (inr (mid, put, turned)) = turns mid new lines (Some code) (settle old mid had put.settled) put.settled.none turned

  keep_group : (old new : Drawing D) (refusal : Option ℕ) → HasCalls facts first old → BeginsGroup old refusal new → HasCalls facts first new
  keep_group old new None had (inl (has, same)) = same_calls old new had same
  keep_group old new None had (inr (none, is)) =
      no_more old new [] had (ap (λ (d : Drawing D). d.project) is) (no_group facts new (ap (λ (d : Drawing D). d.group) is ∙ none))
  keep_group old new (Some code) had (none, spare, same, why) = same_calls old new had same

  room : (old new : Drawing D) (lines : List (List ℕ)) (refusal : Option ℕ) → HasCalls facts first old → MakesRoom facts old lines refusal new → HasCalls facts first new
  room old new lines None had (inl (alone, same)) = same_calls old new had same
  room old new lines None had (inr (together, mid, clears, begins)) = keep_group mid new None (clear old mid lines None had clears) begins
  room old new lines (Some code) had (together, inl clears) = clear old new lines (Some code) had clears
  room old new lines (Some code) had (together, inr (mid, clears, begins)) = keep_group mid new (Some code) (clear old mid lines None had clears) begins

  pub calls_kept : AreKept (project_canvas facts) (HasCalls facts first)
  calls_kept = record {
    change = change;
    tell = tell;
    begin = begin;
    room = room;
    settle = settle;
    lose = lose;
  }

-- all calls of a drawing
pub calls_of : {D : Type 0} (facts : Ghosts D) (verbose : Bool) (lines : List (ℕ × List ℕ)) (result : Result (Option Stop) ScriptError) (first : State D) (u : Option (List ℕ)) (last : Drawing D) (w : Option (List ℕ))
    → IsScriptDrawn (project_canvas facts) verbose lines result (first_drawing first) u last w → HasCalls facts first last
calls_of {D} facts verbose lines result first u last w drawn =
    let none : HasCalls facts first (first_drawing first) = record { calls = []; made = refl; staged = []; waits = refl } in
    drawn_keeps (project_canvas facts) (HasCalls facts first) (calls_kept facts first) verbose lines result (first_drawing first) u last w none drawn

-- the laws of sessions that are cited here
abbrev pub Keeps : {D : Type 0} → Ghosts D → ℕ → Type 0
Keeps {D = D} facts cap = (before : List Session) (s : Session) (mid last : State D) → PassInTurn facts (Creates facts cap) before s mid last
    → LeavesOnly facts mid.disk last.disk (HoldsEach cap (before ++ s ∷ []))

abbrev pub Reopens : {D : Type 0} → Ghosts D → ℕ → Type 0
Reopens {D = D} facts cap = (sessions : List Session) (disk : D) (first : State D) → IsLeftBy facts cap sessions disk → Opens facts disk first
    → (first.cap ≡ cap) × KeepEach cap empty_project sessions (project_of first.maps) × LeavesOnly facts disk first.disk (HoldsEach cap sessions)

-- at each moment of the calls
pub at_moments : {D : Type 0} (facts : Ghosts D) (cap : ℕ) (first last : State D) (calls : List ProjectCall) → Keeps facts cap → Reopens facts cap → Creates facts cap first → AllMade facts first calls last
    → HoldsAtMoments facts cap first calls last
at_moments facts cap first last calls keeps reopens created made front back is =
    let (mid, before, behind) = go_parted facts front back first last (subst (λ (cs : List ProjectCall). AllMade facts first cs last) is made) in
    let passed : Passes facts (Creates facts cap) (session_of front back) mid last = record { first = first; begun = created; front = before; back = behind } in (
      mid,
      before,
      keeps [] (session_of front back) mid last passed,
      λ disk again images opens. (reopens (session_of front back ∷ []) disk again
          (record { before = []; session = session_of front back; mid = mid; last = last; all = refl; passed = passed; images = images }) opens).1,
    )
