-- One line over a project: what its answer tells, the call that it made, and what stands then.
use Rattle.std.proofs.Common.{◌≡◌, ◌∙◌, ◌⊎◌, inl, inr, ℕ, ◌≤◌, true, false, List, [], ◌∷◌, ◌++◌, Option, Some, None, Result, Ok, Err, refl, sym, ap, subst}
use Rattle.std.specs.Prelude.{All, Bool, MatchOption}
use Rattle.std.proofs.lemmas.Bool.{cases_Bool, true≢false}
use Rattle.std.proofs.lemmas.List.Elements.{All-cons, All-nil}
use Rattle.store_disk.specs.Moments.{LeavesOnly}
use Rattle.store_disk.specs.Stops.{Each}
use Rattle.store_disk.specs.declared.disk.Disk.{Ghosts}
use Rattle.store_disk.proofs.Moments.{started}
use Rattle.map_tables.specs.Projects.{ProjectMaps, project_of}
use Rattle.map_commands.specs.Errors as commands
use Rattle.map_commands.specs.declared.error.CommandError.{CommandError}
use Rattle.store_project.specs.Calls.{AllMade, Applies, ProjectCall}
use Rattle.store_project.specs.Calls.ProjectCall.{Apply}
use Rattle.store_project.specs.Outcomes.{EndsApply, RefusesApply}
use Rattle.store_project.specs.Stands.{IsOutcome, StandsFor}
use Rattle.store_project.specs.States.{State, IsProjectKept}
use Rattle.store_project.specs.declared.error.ProjectError.{ProjectError}
use Rattle.store_project.specs.declared.error.ProjectError.TheVariants.{Device, OutOfMemory, Reopen, GenerationsSpent, Refused, Damaged, Blank, NotAProject, NotEmpty, BadGeometry}
use Rattle.run_edit.specs.Editing.{AnswersQuery, IsTold, MayLack, RepliesInProject, Told, outcome_in, told_of}
use Rattle.run_edit.specs.Queries.{query_of}
use Rattle.run_edit.specs.Runs.{Exchange}
use Rattle.run_edit.specs.Sessions.{AllReopen, AreCalls, AreOfCall, GoesOver, IsInDoubt, IsOutcomeOfAll, MakesNoCall}
use Rattle.run_edit.specs.Texts.{outcome_text, refused_text}
use Rattle.run_edit.specs.Told.{AnswersTold, EndsTold, LacksTold, RefusesTold, RepliesTold}
use Rattle.run_edit.specs.declared.query.Query.{Query}

pub same_told : (a b : Told) → a.maps ≡ b.maps → a.cap ≡ b.cap → a.must_reopen ≡ b.must_reopen → a ≡ b
same_told a b maps cap reopen =
    ap (λ (m : ProjectMaps). record { maps = m; cap = a.cap; must_reopen = a.must_reopen }) maps
    ∙ ap (λ (c : ℕ). record { maps = b.maps; cap = c; must_reopen = a.must_reopen }) cap
    ∙ ap (λ (r : Bool). record { maps = b.maps; cap = b.cap; must_reopen = r }) reopen

module _ {D : Type 0} (facts : Ghosts D) where
  -- ---- What is told

  left_so : (old new : State D) → old.must_reopen ≡ false → new.must_reopen ≡ false → project_of new.maps ≡ project_of old.maps → new.cap ≡ old.cap → told_of new ≡ told_of old
  left_so old new ready still maps cap = same_told (told_of new) (told_of old) maps cap (still ∙ sym ready)

  refused_told : (e : ProjectError) (old new : State D) (line : List ℕ) → project_of new.maps ≡ project_of old.maps → new.cap ≡ old.cap → RefusesApply facts e old new line
      → RefusesTold e (told_of old) (told_of new) line
  refused_told Device old new line maps cap (ready, reopen, rose) =
      (ready, same_told (told_of new) (record { maps = project_of old.maps; cap = old.cap; must_reopen = true }) maps cap reopen)
  refused_told OutOfMemory old new line maps cap (ready, still, leads) = ((ready, left_so old new ready still maps cap), leads)
  refused_told Reopen old new line maps cap (reopen, same) = (reopen, ap (λ (s : State D). told_of s) same)
  refused_told GenerationsSpent old new line maps cap (ready, still, last, above, leads) = ((ready, left_so old new ready still maps cap), leads)
  refused_told (Refused e) old new line maps cap (ready, still, refused) = ((ready, left_so old new ready still maps cap), refused)
  refused_told (Damaged place) old new line maps cap never = absurd never
  refused_told Blank old new line maps cap never = absurd never
  refused_told NotAProject old new line maps cap never = absurd never
  refused_told NotEmpty old new line maps cap never = absurd never
  refused_told BadGeometry old new line maps cap never = absurd never

  ends_told : (answer : Result ℕ ProjectError) (old new : State D) (line : List ℕ) → new.cap ≡ old.cap → EndsApply facts answer old new line → EndsTold answer (told_of old) (told_of new) line
  ends_told (Ok n) old new line cap (ready, still, accepts) = (ready, still, cap, accepts)
  ends_told (Err e) old new line cap (maps, refused) = refused_told e old new line maps cap refused

  -- what may be answered to a line, by what it is
  abbrev pub AtLine : Option (List ℕ × Query) → State D → List ℕ → List ℕ → State D → Type 0
  AtLine o old line text new = MatchOption o (IsTold facts old line text new) (λ q. AnswersQuery (told_of old) q.1 text × (new ≡ old))
      ⊎ ((MatchOption o ⊥ (λ q. MayLack (told_of old) q.1) × (new ≡ old)) × (text ≡ refused_text 31))

  pub line_told : (o : Option (List ℕ × Query)) (old new : State D) (line text : List ℕ) → AtLine o old line text new
      → MatchOption o ((answer : Result ℕ ProjectError) × EndsTold answer (told_of old) (told_of new) line × (text ≡ outcome_text (outcome_in answer)))
      (λ q. AnswersQuery (told_of old) q.1 text × (told_of new ≡ told_of old))
      ⊎ ((MatchOption o ⊥ (λ q. MayLack (told_of old) q.1) × (told_of new ≡ told_of old)) × (text ≡ refused_text 31))
  line_told None old new line text (inl (answer, applies, is)) = inl (answer, ends_told answer old new line applies.same_cap applies.ends, is)
  line_told None old new line text (inr ((never, same), is)) = absurd never
  line_told (Some q) old new line text (inl (told, same)) = inl (told, ap (λ (s : State D). told_of s) same)
  line_told (Some q) old new line text (inr ((lacks, same), is)) = inr ((lacks, ap (λ (s : State D). told_of s) same), is)

  -- ---- The call

  asked : (q : List ℕ × Query) (line text : List ℕ) → query_of line ≡ Some q → AreCalls (record { line = line; text = text } ∷ []) []
  asked q line text some =
      let e : Exchange = record { line = line; text = text } in
      All-cons MakesNoCall e []
      (subst (λ (o : Option (List ℕ × Query)). MatchOption o ((error : CommandError) × (text ≡ refused_text (commands.code_of error))) (λ q. Unit {0})) (sym some) tt)
      (All-nil MakesNoCall)

  -- a line that is a query made no call, and any other one its own
  pub line_calls : (o : Option (List ℕ × Query)) → (old new : State D) (line text : List ℕ) → query_of line ≡ o → AtLine o old line text new
      → (calls : List ProjectCall) × AreCalls (record { line = line; text = text } ∷ []) calls × AllMade facts old calls new
  line_calls None old new line text none (inl (answer, applies, is)) =
      let e : Exchange = record { line = line; text = text } in (
        Apply line answer ∷ [],
        ([], e ∷ [], [], refl, All-nil MakesNoCall, (none, ap (λ (t : List ℕ). record { line = line; text = t } ∷ []) is), All-nil MakesNoCall),
        (new, applies, refl),
      )
  line_calls None old new line text none (inr ((never, same), is)) = absurd never
  line_calls (Some q) old new line text some (inl (told, same)) = ([], asked q line text some, same)
  line_calls (Some q) old new line text some (inr ((lacks, same), is)) = ([], asked q line text some, same)
