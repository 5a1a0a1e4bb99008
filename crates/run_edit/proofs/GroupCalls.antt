-- Lines that were decided together: what their answers tell, the call that put them on the disk, and what stands then.
use Rattle.std.proofs.Common.{◌≡◌, ◌∙◌, ◌⊎◌, inl, inr, ℕ, ◌≤◌, Bool, true, false, ◌||◌, List, [], ◌∷◌, ◌++◌, Option, Some, None, Result, Ok, Err, refl, sym, ap, subst, append-nil}
use Rattle.std.specs.Prelude.{All, MatchOption, is_ok, map}
use Rattle.std.specs.List.{list_any}
use Rattle.std.proofs.lemmas.Bool.{true≢false}
use Rattle.std.proofs.lemmas.List.Elements.{All-cons, All-nil}
use Rattle.store_disk.specs.Moments.{LeavesOnly}
use Rattle.store_disk.specs.Stops.{Each}
use Rattle.store_disk.specs.declared.disk.Disk.{Ghosts}
use Rattle.map_tables.specs.Projects.{ProjectMaps, project_of}
use Rattle.map_commands.specs.Errors as commands
use Rattle.map_commands.specs.declared.error.CommandError.{CommandError}
use Rattle.map_commands.specs.declared.error.CommandError.TheVariants as command
use Rattle.store_project.specs.Calls.{ProjectCall, PutsGroup}
use Rattle.store_project.specs.Calls.ProjectCall.{Put}
use Rattle.store_project.specs.Groups.{EndsPut, GroupState, RefusesStage, RefusesToPut, staged_lines}
use Rattle.store_project.specs.Refusals.{code_of}
use Rattle.store_project.specs.Stands.{StandsForEither}
use Rattle.store_project.specs.States.{IsProjectKept, State}
use Rattle.store_project.specs.declared.error.ProjectError.{ProjectError}
use Rattle.store_project.specs.declared.error.ProjectError.TheVariants.{Device, OutOfMemory, Reopen, GenerationsSpent, Refused, Damaged, Blank, NotAProject, NotEmpty, BadGeometry}
use Rattle.store_project.proofs.Grouping.{leads_all}
use Rattle.run_edit.specs.Editing.{AnswersQuery, Told, outcome_in, told_of}
use Rattle.run_edit.specs.Groups.{Decided, Decides, DecidesAll, IsWaiting, exchanges, fate_of, as_answered, staged_before, staged_of}
use Rattle.run_edit.specs.Queries.{query_of}
use Rattle.run_edit.specs.Runs.{Exchange, IsTrace, lines_in}
use Rattle.run_edit.specs.Sessions.{AllReopen, AreAmong, GoesOver, IsInDoubt, IsOutcomeOfAll, MakesNoCall}
use Rattle.run_edit.specs.Texts.{outcome_text, refused_text}
use Rattle.run_edit.specs.Told.{EndsTold, RefusesTold, RepliesTold}
use Rattle.run_edit.specs.declared.batch.Batch.{Batch}
use Rattle.run_edit.specs.declared.fate.Fate.{Fate}
use Rattle.run_edit.specs.declared.fate.Fate.TheVariants.{Kept, Lost, Stuck}
use Rattle.run_edit.specs.declared.query.Query.{Query}
use Rattle.run_edit.proofs.LineCalls.{same_told}

-- ---- What the answers tell

abbrev Ready : ℕ → ProjectMaps → Told
Ready cap maps = record { maps = maps; cap = cap; must_reopen = false }

abbrev InDoubt : ℕ → ProjectMaps → Told
InDoubt cap maps = record { maps = maps; cap = cap; must_reopen = true }

-- a line that is no query was answered so
told_line : (a b : Told) (line text : List ℕ) (answer : Result ℕ ProjectError) → query_of line ≡ None → EndsTold answer a b line → text ≡ outcome_text (outcome_in answer) → RepliesTold a line text b
told_line a b line text answer none ends is =
    inl (subst (λ (o : Option (List ℕ × Query)). MatchOption o ((ans : Result ℕ ProjectError) × EndsTold ans a b line × (text ≡ outcome_text (outcome_in ans))) (λ q. AnswersQuery a q.1 text × (b ≡ a))) (sym none)
    (answer, ends, is))

refused_alone : (e : ProjectError) (cap : ℕ) (old new : ProjectMaps) (line : List ℕ) → new ≡ old → RefusesStage e cap old line → RefusesTold e (Ready cap old) (Ready cap new) line
refused_alone OutOfMemory cap old new line same leads = ((refl, ap (Ready cap) same), leads)
refused_alone (Refused e) cap old new line same refused = ((refl, ap (Ready cap) same), refused)
refused_alone Device cap old new line same never = absurd never
refused_alone Reopen cap old new line same never = absurd never
refused_alone GenerationsSpent cap old new line same never = absurd never
refused_alone (Damaged place) cap old new line same never = absurd never
refused_alone Blank cap old new line same never = absurd never
refused_alone NotAProject cap old new line same never = absurd never
refused_alone NotEmpty cap old new line same never = absurd never
refused_alone BadGeometry cap old new line same never = absurd never

kept_line : (cap : ℕ) (old new : ProjectMaps) (line : List ℕ) (outcome : Result ℕ ℕ) → query_of line ≡ None → Decides cap old line outcome new
    → RepliesTold (Ready cap old) line (outcome_text outcome) (Ready cap new)
kept_line cap old new line (Ok n) none accepts = told_line (Ready cap old) (Ready cap new) line (outcome_text (Ok n)) (Ok n) none (refl, refl, refl, accepts) refl
kept_line cap old new line (Err code) none (same, (e, is, refused)) =
    told_line (Ready cap old) (Ready cap new) line (outcome_text (Err code)) (Err e) none (refused_alone e cap old new line same refused) (ap (λ (c : ℕ). outcome_text (Err c)) is)

kept_trace : (cap : ℕ) (ds : List Decided) (old new : ProjectMaps) → DecidesAll cap old ds new → IsTrace RepliesTold (Ready cap old) (exchanges (as_answered Kept ds)) (Ready cap new)
kept_trace cap [] old new same = ap (Ready cap) same
kept_trace cap (d ∷ ds) old new (mid, none, decides, rest) = (Ready cap mid, kept_line cap old mid d.line d.outcome none decides, kept_trace cap ds mid new rest)

stuck_trace : (cap : ℕ) (told : Told) (ds : List Decided) (old new : ProjectMaps) → told.must_reopen ≡ true → DecidesAll cap old ds new → IsTrace RepliesTold told (exchanges (as_answered Stuck ds)) told
stuck_trace cap told [] old new reopen same = refl
stuck_trace cap told (d ∷ ds) old new reopen (mid, none, decides, rest) =
    (told, told_line told told d.line (outcome_text (Err 32)) (Err Reopen) none (reopen, refl) refl, stuck_trace cap told ds mid new reopen rest)

lost_trace : (cap : ℕ) (ds : List Decided) (old new : ProjectMaps) → list_any is_ok (map (λ (d : Decided). d.outcome) ds) ≡ true → DecidesAll cap old ds new
    → IsTrace RepliesTold (Ready cap old) (exchanges (as_answered Lost ds)) (InDoubt cap old)
lost_trace cap [] old new any same = absurd (true≢false (sym any))
lost_trace cap (d ∷ ds) old new any (mid, none, decides, rest) = go (λ some. lost_trace cap ds mid new some rest) d.outcome any decides
  where
    go : (list_any is_ok (map (λ (d : Decided). d.outcome) ds) ≡ true → IsTrace RepliesTold (Ready cap mid) (exchanges (as_answered Lost ds)) (InDoubt cap mid)) → (outcome : Result ℕ ℕ) → (is_ok outcome || list_any is_ok (map (λ (d : Decided). d.outcome) ds)) ≡ true → Decides cap old d.line outcome mid
        → IsTrace RepliesTold (Ready cap old) (exchanges (as_answered Lost (record { line = d.line; outcome = outcome } ∷ ds))) (InDoubt cap old)
    go behind (Ok n) some accepts = (
      InDoubt cap old,
      told_line (Ready cap old) (InDoubt cap old) d.line (outcome_text (Err 30)) (Err Device) none (refl, refl) refl,
      stuck_trace cap (InDoubt cap old) ds mid new refl rest,
    )
    go behind (Err code) some (same, refused) = (
      Ready cap mid,
      kept_line cap old mid d.line (Err code) none (same, refused),
      subst (λ (m : ProjectMaps). IsTrace RepliesTold (Ready cap mid) (exchanges (as_answered Lost ds)) (InDoubt cap m)) same (behind some),
    )

-- where no line was accepted the maps stay
none_led : (cap : ℕ) (ds : List Decided) (old new : ProjectMaps) → list_any is_ok (map (λ (d : Decided). d.outcome) ds) ≡ false → DecidesAll cap old ds new → new ≡ old
none_led cap [] old new none same = same
none_led cap (d ∷ ds) old new none (mid, asked, decides, rest) = go (λ any. none_led cap ds mid new any rest) d.outcome none decides
  where
    go : (list_any is_ok (map (λ (d : Decided). d.outcome) ds) ≡ false → new ≡ mid) → (outcome : Result ℕ ℕ) → (is_ok outcome || list_any is_ok (map (λ (d : Decided). d.outcome) ds)) ≡ false → Decides cap old d.line outcome mid → new ≡ old
    go behind (Ok n) any accepts = absurd (true≢false any)
    go behind (Err code) any (same, refused) = behind any ∙ same

-- ---- The calls

quiet_code : (e : ProjectError) (cap : ℕ) (old : ProjectMaps) (line : List ℕ) → RefusesStage e cap old line → (c : CommandError) × (code_of e ≡ commands.code_of c)
quiet_code OutOfMemory cap old line leads = (command.OutOfMemory, refl)
quiet_code (Refused e) cap old line refused = (e, refl)
quiet_code Device cap old line never = absurd never
quiet_code Reopen cap old line never = absurd never
quiet_code GenerationsSpent cap old line never = absurd never
quiet_code (Damaged place) cap old line never = absurd never
quiet_code Blank cap old line never = absurd never
quiet_code NotAProject cap old line never = absurd never
quiet_code NotEmpty cap old line never = absurd never
quiet_code BadGeometry cap old line never = absurd never

all_quiet : (cap : ℕ) (ds : List Decided) (old new : ProjectMaps) → list_any is_ok (map (λ (d : Decided). d.outcome) ds) ≡ false → DecidesAll cap old ds new → All MakesNoCall (exchanges (as_answered Kept ds))
all_quiet cap [] old new none same = All-nil MakesNoCall
all_quiet cap (d ∷ ds) old new none (mid, asked, decides, rest) = go (λ any. all_quiet cap ds mid new any rest) d.outcome none decides
  where
    go : (list_any is_ok (map (λ (d : Decided). d.outcome) ds) ≡ false → All MakesNoCall (exchanges (as_answered Kept ds))) → (outcome : Result ℕ ℕ) → (is_ok outcome || list_any is_ok (map (λ (d : Decided). d.outcome) ds)) ≡ false → Decides cap old d.line outcome mid
        → All MakesNoCall (exchanges (as_answered Kept (record { line = d.line; outcome = outcome } ∷ ds)))
    go behind (Ok n) any accepts = absurd (true≢false any)
    go behind (Err code) any (same, (e, is, refused)) =
        let quiet = quiet_code e cap old d.line refused in
        All-cons MakesNoCall (record { line = d.line; text = outcome_text (Err code) }) (exchanges (as_answered Kept ds))
        (subst (λ (o : Option (List ℕ × Query)). MatchOption o ((error : CommandError) × (refused_text code ≡ refused_text (commands.code_of error))) (λ q. Unit {0})) (sym asked)
        (quiet.0, ap refused_text (is ∙ quiet.1)))
        (behind any)

-- ---- What is in doubt

stuck_reopen : (ds : List Decided) → AllReopen (exchanges (as_answered Stuck ds))
stuck_reopen [] = tt
stuck_reopen (d ∷ ds) = (refl, stuck_reopen ds)

among_skip : (lines : List (List ℕ)) (other : List ℕ) (all : List (List ℕ)) → AreAmong lines all → AreAmong lines (other ∷ all)
among_skip [] other all is = tt
among_skip (line ∷ lines) other all is = inr is

among_stuck : (ds : List Decided) → AreAmong (staged_lines (staged_of ds)) (lines_in (exchanges (as_answered Stuck ds)))
among_stuck [] = tt
among_stuck (d ∷ ds) = go (among_stuck ds) d.outcome
  where
    go : AreAmong (staged_lines (staged_of ds)) (lines_in (exchanges (as_answered Stuck ds))) → (outcome : Result ℕ ℕ) → AreAmong (staged_lines (staged_before d.line outcome (staged_of ds))) (d.line ∷ lines_in (exchanges (as_answered Stuck ds)))
    go behind (Ok n) = inl (refl, behind)
    go behind (Err code) = among_skip (staged_lines (staged_of ds)) d.line (lines_in (exchanges (as_answered Stuck ds))) behind

-- the first accepted line of those that are lost
record First (ds : List Decided) : Type 0 where
  pub front : List Exchange
  pub faulted : Exchange
  pub back : List Exchange
  pub more : List (List ℕ)
  pub split : exchanges (as_answered Lost ds) ≡ front ++ faulted ∷ back
  pub answered : faulted.text ≡ refused_text 30
  pub behind : AllReopen back
  pub lines : staged_lines (staged_of ds) ≡ faulted.line ∷ more
  pub among : AreAmong more (lines_in back)

first_of : (ds : List Decided) → list_any is_ok (map (λ (d : Decided). d.outcome) ds) ≡ true → First ds
first_of [] any = absurd (true≢false (sym any))
first_of (d ∷ ds) any = go (λ some. first_of ds some) d.outcome any
  where
    go : (list_any is_ok (map (λ (d : Decided). d.outcome) ds) ≡ true → First ds) → (outcome : Result ℕ ℕ) → (is_ok outcome || list_any is_ok (map (λ (d : Decided). d.outcome) ds)) ≡ true → First (record { line = d.line; outcome = outcome } ∷ ds)
    go behind (Ok n) some = record {
      front = [];
      faulted = record { line = d.line; text = refused_text 30 };
      back = exchanges (as_answered Stuck ds);
      more = staged_lines (staged_of ds);
      split = refl;
      answered = refl;
      behind = stuck_reopen ds;
      lines = refl;
      among = among_stuck ds;
    }
    go behind (Err code) some =
        let first = behind some in
        record {
          front = record { line = d.line; text = refused_text code } ∷ first.front;
          faulted = first.faulted;
          back = first.back;
          more = first.more;
          split = ap (λ (z : List Exchange). record { line = d.line; text = refused_text code } ∷ z) first.split;
          answered = first.answered;
          behind = first.behind;
          lines = first.lines;
          among = first.among;
        }

module _ {D : Type 0} (facts : Ghosts D) where
  is_ready : (s : State D) → s.must_reopen ≡ false → told_of s ≡ Ready s.cap (project_of s.maps)
  is_ready s ready = same_told (told_of s) (Ready s.cap (project_of s.maps)) refl refl ready

  -- no line was accepted, and no call made
  pub quiet_goes : (old : State D) (ds : List Decided) (maps : ProjectMaps) → old.must_reopen ≡ false → list_any is_ok (map (λ (d : Decided). d.outcome) ds) ≡ false
      → DecidesAll old.cap (project_of old.maps) ds maps → GoesOver facts old (exchanges (as_answered Kept ds)) old
  quiet_goes old ds maps ready none leads =
      let same = none_led old.cap ds (project_of old.maps) maps none leads in
      let told = subst (λ (m : ProjectMaps). IsTrace RepliesTold (Ready old.cap (project_of old.maps)) (exchanges (as_answered Kept ds)) (Ready old.cap m)) same
      (kept_trace old.cap ds (project_of old.maps) maps leads) in
      record {
        told = subst (λ (t : Told). IsTrace RepliesTold t (exchanges (as_answered Kept ds)) t) (sym (is_ready old ready)) told;
        calls = [];
        are = all_quiet old.cap ds (project_of old.maps) maps none leads;
        made = refl;
        kept = λ kept. kept;
        in_doubt = λ still reopen. absurd (true≢false (sym reopen ∙ still));
        reopen = λ reopen. absurd (true≢false (sym reopen ∙ ready));
      }

  module _ (counts_now : (d : D) (t : ℕ) (file : List ℕ) → t ≤ facts.moment d → facts.may_leave d file → facts.left_since d t file) where
    group_doubt : (old new : State D) (ds : List Decided) (put : PutsGroup facts old (staged_of ds) (Err Device) new) → old.must_reopen ≡ false
        → list_any is_ok (map (λ (d : Decided). d.outcome) ds) ≡ true → IsInDoubt facts (exchanges (as_answered Lost ds)) new
    group_doubt old new ds put ready any =
        let first = first_of ds any in
        let moments = put.any_moment ready in
        let leads = leads_all old.cap (project_of old.maps) (staged_of ds) put.after put.accepted in
        record {
          front = first.front;
          faulted = first.faulted;
          back = first.back;
          split = first.split;
          answered = first.answered;
          behind = first.behind;
          more = first.more;
          among = first.among;
          images = λ file left.
              subst (λ (lines : List (List ℕ)). IsOutcomeOfAll new.cap (project_of new.maps) lines file) first.lines
              (subst (λ (m : ProjectMaps). IsOutcomeOfAll new.cap m (staged_lines (staged_of ds)) file) (sym put.ends.0)
              (subst (λ (c : ℕ). IsOutcomeOfAll c (project_of old.maps) (staged_lines (staged_of ds)) file) (sym put.same_cap)
              (either (moments.each file (counts_now new.disk (facts.moment old.disk) file moments.later left)))));
        }
      where
        either : {file : List ℕ} → StandsForEither old.cap (project_of old.maps) put.after file → IsOutcomeOfAll old.cap (project_of old.maps) (staged_lines (staged_of ds)) file
        either (inl stands) = inl stands
        either (inr stands) = inr (put.after, leads_all old.cap (project_of old.maps) (staged_of ds) put.after put.accepted, stands)

    -- a group was put on the disk, or the device failed
    pub put_goes : (old new : State D) (ds : List Decided) (answer : Result Unit ProjectError) (put : PutsGroup facts old (staged_of ds) answer new) → old.must_reopen ≡ false
        → list_any is_ok (map (λ (d : Decided). d.outcome) ds) ≡ true → DecidesAll old.cap (project_of old.maps) ds put.after
        → GoesOver facts old (exchanges (as_answered (fate_of answer) ds)) new
    put_goes old new ds (Ok done) put ready any leads =
        let trace = exchanges (as_answered Kept ds) in
        let last = same_told (told_of new) (Ready old.cap put.after) put.ends.2 put.same_cap put.ends.1 in
        record {
          told = subst (λ (t : Told). IsTrace RepliesTold (told_of old) trace t) (sym last)
              (subst (λ (t : Told). IsTrace RepliesTold t trace (Ready old.cap put.after)) (sym (is_ready old ready)) (kept_trace old.cap ds (project_of old.maps) put.after leads));
          calls = Put (staged_of ds) (Ok done) ∷ [];
          are = ([], trace, [], sym (append-nil trace), All-nil MakesNoCall, (ds, refl, refl), All-nil MakesNoCall);
          made = (new, put, refl);
          kept = λ kept. put.kept;
          in_doubt = λ still reopen. absurd (true≢false (sym reopen ∙ put.ends.1));
          reopen = λ reopen. absurd (true≢false (sym reopen ∙ ready));
        }
    put_goes old new ds (Err e) put ready any leads = go e put put.ends.1
      where
        go : (e : ProjectError) → PutsGroup facts old (staged_of ds) (Err e) new → RefusesToPut facts e old new → GoesOver facts old (exchanges (as_answered Lost ds)) new
        go Device failed (was, reopen, rose) =
            let trace = exchanges (as_answered Lost ds) in
            let last = same_told (told_of new) (InDoubt old.cap (project_of old.maps)) failed.ends.0 failed.same_cap reopen in
            record {
              told = subst (λ (t : Told). IsTrace RepliesTold (told_of old) trace t) (sym last)
                  (subst (λ (t : Told). IsTrace RepliesTold t trace (InDoubt old.cap (project_of old.maps))) (sym (is_ready old ready))
                  (lost_trace old.cap ds (project_of old.maps) put.after any leads));
              calls = Put (staged_of ds) (Err Device) ∷ [];
              are = ([], trace, [], sym (append-nil trace), All-nil MakesNoCall, (ds, refl, refl), All-nil MakesNoCall);
              made = (new, failed, refl);
              kept = λ kept. failed.kept;
              in_doubt = λ still again. group_doubt old new ds failed ready any;
              reopen = λ stuck. absurd (true≢false (sym stuck ∙ ready));
            }
        go Reopen failed (stuck, same) = absurd (true≢false (sym stuck ∙ ready))
        go OutOfMemory failed never = absurd never
        go GenerationsSpent failed never = absurd never
        go (Refused e) failed never = absurd never
        go (Damaged place) failed never = absurd never
        go Blank failed never = absurd never
        go NotAProject failed never = absurd never
        go NotEmpty failed never = absurd never
        go BadGeometry failed never = absurd never

    -- the same of a batch that waits
    pub waiting_put : (old new : State D) (batch : Batch) (lines : List (List ℕ)) (group : GroupState) (answer : Result Unit ProjectError) → batch.group ≡ group → (waits : IsWaiting old batch lines)
        → EndsPut facts answer old new (project_of group.maps)
        → (old.must_reopen ≡ false → LeavesOnly facts old.disk new.disk (StandsForEither old.cap (project_of old.maps) (project_of group.maps)))
        → IsProjectKept facts new → new.cap ≡ old.cap → list_any is_ok (map (λ (d : Decided). d.outcome) waits.decided) ≡ true
        → GoesOver facts old (exchanges (as_answered (fate_of answer) waits.decided)) new
    waiting_put old new batch lines group answer same waits ends moments kept cap any =
        let after = project_of batch.group.maps in
        let is : project_of batch.group.maps ≡ project_of group.maps = ap (λ (g : GroupState). project_of g.maps) same in
        put_goes old new waits.decided answer
        (record {
          after = after;
          accepted = waits.can.accepted;
          ends = subst (λ (m : ProjectMaps). EndsPut facts answer old new m) (sym is) ends;
          any_moment = λ ready. subst (λ (m : ProjectMaps). LeavesOnly facts old.disk new.disk (StandsForEither old.cap (project_of old.maps) m)) (sym is) (moments ready);
          kept = kept;
          same_cap = cap;
        })
        waits.ready any waits.leads
