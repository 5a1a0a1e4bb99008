-- The call that a line makes over a project, the moments in it and behind it, and what stands then; and a run.
use Rattle.std.proofs.Common.{◌≡◌, ◌∙◌, ◌⊎◌, inl, inr, ℕ, ◌≤◌, true, false, List, [], ◌∷◌, Option, Some, None, Result, Ok, Err, refl, sym, ap, subst}
use Rattle.std.proofs.lemmas.Bool.{true≢false}
use Rattle.store_disk.specs.Moments.{LeavesOnly}
use Rattle.store_disk.specs.Stops.{Each}
use Rattle.store_disk.specs.declared.disk.Disk.{Ghosts}
use Rattle.store_disk.proofs.Moments.{started}
use Rattle.map_tables.specs.Projects.{ProjectMaps, project_of}
use Rattle.store_project.specs.Calls.{AllMade, Applies, ProjectCall}
use Rattle.store_project.specs.Outcomes.{EndsApply, RefusesApply}
use Rattle.store_project.specs.Stands.{IsOutcome}
use Rattle.store_project.specs.States.{State, IsProjectKept}
use Rattle.store_project.specs.declared.error.ProjectError.{ProjectError}
use Rattle.store_project.specs.declared.error.ProjectError.TheVariants.{Device, OutOfMemory, Reopen, GenerationsSpent, Refused, Damaged, Blank, NotAProject, NotEmpty, BadGeometry}
use Rattle.store_project.proofs.Holding.{session_moments}
use Rattle.run_edit.specs.Editing.{RepliesInProject, outcome_in, told_of}
use Rattle.run_edit.specs.Queries.{query_of}
use Rattle.run_edit.specs.Runs.{Exchange}
use Rattle.run_edit.specs.Sessions.{GoesOver, HoldsThroughout, IsInDoubt, IsOutcomeOfAll, RunsOver}
use Rattle.run_edit.specs.Texts.{outcome_text, refused_text}
use Rattle.run_edit.specs.declared.query.Query.{Query}
use Rattle.run_edit.proofs.LineCalls.{AtLine, line_calls, line_told}

module _ {D : Type 0} (facts : Ghosts D) where
  -- ---- A project that must be opened again

  reopen_refused : (e : ProjectError) (old new : State D) (line : List ℕ) → old.must_reopen ≡ true → RefusesApply facts e old new line → (new ≡ old) × (e ≡ Reopen)
  reopen_refused Device old new line reopen told = absurd (true≢false (sym reopen ∙ told.0))
  reopen_refused OutOfMemory old new line reopen told = absurd (true≢false (sym reopen ∙ told.0))
  reopen_refused Reopen old new line reopen (was, same) = (same, refl)
  reopen_refused GenerationsSpent old new line reopen told = absurd (true≢false (sym reopen ∙ told.0))
  reopen_refused (Refused e) old new line reopen told = absurd (true≢false (sym reopen ∙ told.0))
  reopen_refused (Damaged place) old new line reopen told = absurd told
  reopen_refused Blank old new line reopen told = absurd told
  reopen_refused NotAProject old new line reopen told = absurd told
  reopen_refused NotEmpty old new line reopen told = absurd told
  reopen_refused BadGeometry old new line reopen told = absurd told

  reopen_told : (answer : Result ℕ ProjectError) (old new : State D) (line text : List ℕ) → old.must_reopen ≡ true → EndsApply facts answer old new line → text ≡ outcome_text (outcome_in answer)
      → (new ≡ old) × (text ≡ refused_text 32)
  reopen_told (Ok n) old new line text reopen told is = absurd (true≢false (sym reopen ∙ told.0))
  reopen_told (Err e) old new line text reopen (same, told) is =
      let was = reopen_refused e old new line reopen told in
      (was.0, is ∙ ap (λ (x : ProjectError). outcome_text (outcome_in (Err x))) was.1)

  reopen_one : (o : Option (List ℕ × Query)) (old new : State D) (line text : List ℕ) → old.must_reopen ≡ true → AtLine facts o old line text new → (new ≡ old) × (text ≡ refused_text 32)
  reopen_one None old new line text reopen (inl (answer, applies, is)) = reopen_told answer old new line text reopen applies.ends is
  reopen_one None old new line text reopen (inr ((never, same), is)) = absurd never
  reopen_one (Some q) old new line text reopen (inl (inl (was, is), same)) = (same, is)
  reopen_one (Some q) old new line text reopen (inl (inr (ready, is), same)) = absurd (true≢false (sym reopen ∙ ready))
  reopen_one (Some q) old new line text reopen (inr (((ready, takes), same), is)) = absurd (true≢false (sym reopen ∙ ready))

  kept_one : (o : Option (List ℕ × Query)) (old new : State D) (line text : List ℕ) → IsProjectKept facts old → AtLine facts o old line text new → IsProjectKept facts new
  kept_one None old new line text kept (inl (answer, applies, is)) = applies.kept
  kept_one None old new line text kept (inr ((never, same), is)) = absurd never
  kept_one (Some q) old new line text kept (inl (told, same)) = subst (λ (s : State D). IsProjectKept facts s) (sym same) kept
  kept_one (Some q) old new line text kept (inr ((lacks, same), is)) = subst (λ (s : State D). IsProjectKept facts s) (sym same) kept

  pub line_kept : (old new : State D) (line text : List ℕ) → RepliesInProject facts old line text new → IsProjectKept facts old → IsProjectKept facts new
  line_kept old new line text told kept = kept_one (query_of line) old new line text kept told

  -- ---- The exit

  module _ (counts_now : (d : D) (t : ℕ) (file : List ℕ) → t ≤ facts.moment d → facts.may_leave d file → facts.left_since d t file) where
    -- each image after a line of a project that needn't be opened again
    abbrev After : State D → List ℕ → Type 0
    After new line = Each (facts.may_leave new.disk) (IsOutcome new.cap (project_of new.maps) line)

    images_after : (old new : State D) (line : List ℕ) (answer : Result ℕ ProjectError) → old.must_reopen ≡ false → Applies facts old line answer new
        → project_of new.maps ≡ project_of old.maps → After new line
    images_after old new line answer ready applies same = λ file left.
        let moments = applies.any_moment ready in
        let is = moments.each file (counts_now new.disk (facts.moment old.disk) file moments.later left) in
        subst (λ (m : ProjectMaps). IsOutcome new.cap m line file) (sym same) (subst (λ (c : ℕ). IsOutcome c (project_of old.maps) line file) (sym applies.same_cap) is)

    -- a line that leaves the project to be opened again was answered `no 30`
    at_fault : (e : ProjectError) (old new : State D) (line : List ℕ) → old.must_reopen ≡ false → new.must_reopen ≡ true → RefusesApply facts e old new line → e ≡ Device
    at_fault Device old new line ready reopen told = refl
    at_fault OutOfMemory old new line ready reopen told = absurd (true≢false (sym reopen ∙ told.1))
    at_fault Reopen old new line ready reopen (was, same) = absurd (true≢false (sym was ∙ ready))
    at_fault GenerationsSpent old new line ready reopen told = absurd (true≢false (sym reopen ∙ told.1))
    at_fault (Refused e) old new line ready reopen told = absurd (true≢false (sym reopen ∙ told.1))
    at_fault (Damaged place) old new line ready reopen told = absurd told
    at_fault Blank old new line ready reopen told = absurd told
    at_fault NotAProject old new line ready reopen told = absurd told
    at_fault NotEmpty old new line ready reopen told = absurd told
    at_fault BadGeometry old new line ready reopen told = absurd told

    doubt_told : (answer : Result ℕ ProjectError) (old new : State D) (line text : List ℕ) → old.must_reopen ≡ false → new.must_reopen ≡ true
        → Applies facts old line answer new → EndsApply facts answer old new line → text ≡ outcome_text (outcome_in answer)
        → (text ≡ refused_text 30) × After new line
    doubt_told (Ok n) old new line text ready reopen applies told is = absurd (true≢false (sym reopen ∙ told.1))
    doubt_told (Err e) old new line text ready reopen applies (same, told) is = (
      is ∙ ap (λ (x : ProjectError). outcome_text (outcome_in (Err x))) (at_fault e old new line ready reopen told),
      images_after old new line (Err e) ready applies same,
    )

    doubt_one : (o : Option (List ℕ × Query)) (old new : State D) (line text : List ℕ) → old.must_reopen ≡ false → new.must_reopen ≡ true → AtLine facts o old line text new
        → (text ≡ refused_text 30) × After new line
    doubt_one None old new line text ready reopen (inl (answer, applies, is)) = doubt_told answer old new line text ready reopen applies applies.ends is
    doubt_one None old new line text ready reopen (inr ((never, same), is)) = absurd never
    doubt_one (Some q) old new line text ready reopen (inl (told, same)) = absurd (true≢false (sym reopen ∙ (ap (λ (s : State D). s.must_reopen) same ∙ ready)))
    doubt_one (Some q) old new line text ready reopen (inr ((lacks, same), is)) = absurd (true≢false (sym reopen ∙ (ap (λ (s : State D). s.must_reopen) same ∙ ready)))

    -- one line, of which the public call tells
    pub line_in_doubt : (old new : State D) (line text : List ℕ) → RepliesInProject facts old line text new → old.must_reopen ≡ false → new.must_reopen ≡ true → After new line
    line_in_doubt old new line text told ready reopen = (doubt_one (query_of line) old new line text ready reopen told).1

    -- each image has all of a single line, or nothing of it
    alone : (cap : ℕ) (maps : ProjectMaps) (line file : List ℕ) → IsOutcome cap maps line file → IsOutcomeOfAll cap maps (line ∷ []) file
    alone cap maps line file (inl stands) = inl stands
    alone cap maps line file (inr (new, leads, stands)) = inr (new, (new, leads, refl), stands)

    line_doubt : (old new : State D) (line text : List ℕ) → RepliesInProject facts old line text new → old.must_reopen ≡ false → new.must_reopen ≡ true
        → IsInDoubt facts (record { line = line; text = text } ∷ []) new
    line_doubt old new line text told ready reopen =
        let here = doubt_one (query_of line) old new line text ready reopen told in
        record {
          front = [];
          faulted = record { line = line; text = text };
          back = [];
          split = refl;
          answered = here.0;
          behind = tt;
          more = [];
          among = tt;
          images = λ file left. alone new.cap (project_of new.maps) line file (here.1 file left);
        }

    -- a line goes on over the project
    pub line_goes : (old new : State D) (line text : List ℕ) → RepliesInProject facts old line text new → GoesOver facts old (record { line = line; text = text } ∷ []) new
    line_goes old new line text told =
        let calls = line_calls facts (query_of line) old new line text refl told in
        record {
          told = (told_of new, line_told facts (query_of line) old new line text told, refl);
          calls = calls.0;
          are = calls.1;
          made = calls.2;
          kept = line_kept old new line text told;
          in_doubt = line_doubt old new line text told;
          reopen = λ reopen. let same = reopen_one (query_of line) old new line text reopen told in (same.0, (same.1, tt));
        }

    -- ---- The moments

    module _ (only_now : (d : D) (file : List ℕ) → facts.left_since d (facts.moment d) file → facts.may_leave d file) where
      pub run_moments : (old : State D) (calls : List ProjectCall) (new : State D) → IsProjectKept facts old → old.must_reopen ≡ false → HoldsThroughout facts old calls new
      run_moments old calls new kept ready front back mid split still before behind =
          session_moments facts only_now counts_now old.cap (record { front = front; back = back }) old mid new refl ready kept before behind

      -- the moments of one line
      quiet : (old : State D) (line : List ℕ) → IsProjectKept facts old → old.must_reopen ≡ false → LeavesOnly facts old.disk old.disk (IsOutcome old.cap (project_of old.maps) line)
      quiet old line kept ready = started facts old.disk (IsOutcome old.cap (project_of old.maps) line) (λ file left. inl (old.generation, kept ready file (only_now old.disk file left)))

      moments_one : (o : Option (List ℕ × Query)) (old new : State D) (line text : List ℕ) → IsProjectKept facts old → old.must_reopen ≡ false → AtLine facts o old line text new
          → LeavesOnly facts old.disk new.disk (IsOutcome old.cap (project_of old.maps) line)
      moments_one None old new line text kept ready (inl (answer, applies, is)) = applies.any_moment ready
      moments_one None old new line text kept ready (inr ((never, same), is)) = absurd never
      moments_one (Some q) old new line text kept ready (inl (told, same)) =
          subst (λ (s : State D). LeavesOnly facts old.disk s.disk (IsOutcome old.cap (project_of old.maps) line)) (sym same) (quiet old line kept ready)
      moments_one (Some q) old new line text kept ready (inr ((lacks, same), is)) =
          subst (λ (s : State D). LeavesOnly facts old.disk s.disk (IsOutcome old.cap (project_of old.maps) line)) (sym same) (quiet old line kept ready)

      pub line_moments : (old new : State D) (line text : List ℕ) → RepliesInProject facts old line text new → IsProjectKept facts old → old.must_reopen ≡ false
          → LeavesOnly facts old.disk new.disk (IsOutcome old.cap (project_of old.maps) line)
      line_moments old new line text told kept ready = moments_one (query_of line) old new line text kept ready told

      -- ---- A run

      pub runs_over : (trace : List Exchange) (old new : State D) → GoesOver facts old trace new → IsProjectKept facts old → RunsOver facts old new trace
      runs_over trace old new goes kept = record {
        calls = goes.calls;
        are = goes.are;
        made = goes.made;
        any_moment = run_moments old goes.calls new kept;
        kept = goes.kept kept;
        in_doubt = goes.in_doubt;
        reopen = goes.reopen;
      }
