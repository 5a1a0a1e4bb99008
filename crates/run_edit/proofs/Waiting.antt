-- A line that is decided behind those that wait.
use Rattle.std.proofs.Common.{◌≡◌, ◌∙◌, ◌⊎◌, inl, inr, ℕ, ◌<◌, ◌≤◌, Bool, true, false, ◌||◌, List, [], ◌∷◌, ◌++◌, Option, Some, None, Result, Ok, Err, length, take, refl, sym, ap, subst, arith}
use Rattle.std.specs.Prelude.{IfSome, is_ok, is_some, map, nat_lt}
use Rattle.std.specs.List.{list_any}
use Rattle.std.proofs.lemmas.Bool.{cases_Bool, ltb-false, ltb-true, true≢false}
use Rattle.std.proofs.lemmas.List.{length-take-le, map-append, take_all}
use Rattle.map_tables.specs.Projects.{ProjectMaps, project_of}
use Rattle.map_commands.specs.Errors as commands
use Rattle.map_commands.specs.ProjectGrammar.{project_fault_of}
use Rattle.map_commands.specs.ProjectLines.{Accepts}
use Rattle.store_project.specs.Groups.{CanPut, EndsStage, GroupState, RefusesStage, Staged, staged_after}
use Rattle.store_project.specs.Refusals.{code_of}
use Rattle.store_project.specs.States.{State}
use Rattle.store_project.specs.declared.error.ProjectError.{ProjectError}
use Rattle.store_project.specs.declared.error.ProjectError.TheVariants.{Device, OutOfMemory, Reopen, GenerationsSpent, Refused, Damaged, Blank, NotAProject, NotEmpty, BadGeometry}
use Rattle.run_edit.specs.Groups.{Decided, Decides, DecidesAll, IsEmptyFor, IsWaiting, Waits, staged_before, staged_of}
use Rattle.run_edit.specs.Queries.{query_of}
use Rattle.run_edit.specs.declared.batch.Batch.{Batch}
use Rattle.run_edit.proofs.LongLines.{long-accepts, long-fault, long-query, long-refused, refused-long}

-- a line's first 257 bytes are the line, or both are too long
as_whole : (line whole : List ℕ) → line ≡ take 257 whole → (whole ≡ line) ⊎ ((256 < length line) × (256 < length whole))
as_whole line whole front = go (nat_lt 257 (length whole)) refl
  where
    go : (t : Bool) → nat_lt 257 (length whole) ≡ t → (whole ≡ line) ⊎ ((256 < length line) × (256 < length whole))
    go false e =
        let short : length whole ≤ 257 = ltb-false 257 (length whole) e in
        inl (sym (front ∙ take_all 257 whole short))
    go true e =
        let long : 257 < length whole = ltb-true 257 (length whole) e in
        let size : length line ≡ 257 = ap length front ∙ length-take-le 257 whole (omega arith) in
        inr (omega arith, omega arith)

whole_query : (line whole : List ℕ) → line ≡ take 257 whole → query_of line ≡ None → query_of whole ≡ None
whole_query line whole front none =
    elim (as_whole line whole front) [
      | inl same ↦ ap query_of same ∙ none
      | inr long ↦ long-query whole long.1
    ]

accepted_whole : (cap : ℕ) (old new : ProjectMaps) (line whole : List ℕ) (n : ℕ) → line ≡ take 257 whole → Accepts cap old line new n → whole ≡ line
accepted_whole cap old new line whole n front accepts =
    elim (as_whole line whole front) [
      | inl same ↦ same
      | inr long ↦ absurd (long-accepts cap old new line n long.0 accepts)
    ]

long_stage : (e : ProjectError) (cap : ℕ) (maps : ProjectMaps) (line whole : List ℕ) → 256 < length line → 256 < length whole → RefusesStage e cap maps line → RefusesStage e cap maps whole
long_stage OutOfMemory cap maps line whole long longer (next, (n, accepts)) = absurd (long-accepts cap maps next line n long accepts)
long_stage (Refused e) cap maps line whole long longer refused =
    refused-long cap maps whole (commands.code_of e) (project_fault_of whole) (long-fault whole longer)
    (long-refused cap maps line (commands.code_of e) (project_fault_of line) (long-fault line long) refused)
long_stage Device cap maps line whole long longer never = absurd never
long_stage Reopen cap maps line whole long longer never = absurd never
long_stage GenerationsSpent cap maps line whole long longer never = absurd never
long_stage (Damaged place) cap maps line whole long longer never = absurd never
long_stage Blank cap maps line whole long longer never = absurd never
long_stage NotAProject cap maps line whole long longer never = absurd never
long_stage NotEmpty cap maps line whole long longer never = absurd never
long_stage BadGeometry cap maps line whole long longer never = absurd never

refused_whole : (e : ProjectError) (cap : ℕ) (maps : ProjectMaps) (line whole : List ℕ) → line ≡ take 257 whole → RefusesStage e cap maps line → RefusesStage e cap maps whole
refused_whole e cap maps line whole front refused =
    elim (as_whole line whole front) [
      | inl same ↦ subst (λ (l : List ℕ). RefusesStage e cap maps l) (sym same) refused
      | inr long ↦ long_stage e cap maps line whole long.0 long.1 refused
    ]

-- ---- One more

decides_more : (cap : ℕ) (ds : List Decided) (old mid new : ProjectMaps) (line : List ℕ) (outcome : Result ℕ ℕ) → DecidesAll cap old ds mid → query_of line ≡ None → Decides cap mid line outcome new
    → DecidesAll cap old (ds ++ record { line = line; outcome = outcome } ∷ []) new
decides_more cap [] old mid new line outcome same none decides = (new, none, subst (λ (m : ProjectMaps). Decides cap m line outcome new) same decides, refl)
decides_more cap (d ∷ ds) old mid new line outcome (next, asked, first, rest) none decides = (next, asked, first, decides_more cap ds next mid new line outcome rest none decides)

staged_more : (ds : List Decided) (line : List ℕ) (outcome : Result ℕ ℕ) → staged_of (ds ++ record { line = line; outcome = outcome } ∷ []) ≡ staged_of ds ++ staged_before line outcome []
staged_more [] line outcome = refl
staged_more (d ∷ ds) line outcome = go (staged_more ds line outcome) d.outcome
  where
    go : staged_of (ds ++ record { line = line; outcome = outcome } ∷ []) ≡ staged_of ds ++ staged_before line outcome [] → (o : Result ℕ ℕ) → staged_before d.line o (staged_of (ds ++ record { line = line; outcome = outcome } ∷ [])) ≡ staged_before d.line o (staged_of ds) ++ staged_before line outcome []
    go behind (Ok n) = ap (λ (z : List Staged). record { line = d.line; number = n } ∷ z) behind
    go behind (Err code) = behind

nil_behind : (xs : List Staged) → xs ++ [] ≡ xs
nil_behind [] = refl
nil_behind (x ∷ xs) = ap (λ (z : List Staged). x ∷ z) (nil_behind xs)

module _ {D : Type 0} (project : State D) (old new : Batch) (lines : List (List ℕ)) (line whole : List ℕ) (waiting : IsWaiting project old lines) where
  more : (outcome : Result ℕ ℕ) → line ≡ take 257 whole → query_of line ≡ None → new.outcomes ≡ old.outcomes ++ outcome ∷ []
      → CanPut project new.group (staged_of (waiting.decided ++ record { line = whole; outcome = outcome } ∷ []))
      → Decides project.cap (project_of old.group.maps) whole outcome (project_of new.group.maps) → IsWaiting project new (lines ++ whole ∷ [])
  more outcome front none is can decides =
      let d : Decided = record { line = whole; outcome = outcome } in
      record {
        ready = waiting.ready;
        decided = waiting.decided ++ d ∷ [];
        asked = map-append (λ (d : Decided). d.line) waiting.decided (d ∷ []) ∙ ap (λ (z : List (List ℕ)). z ++ whole ∷ []) waiting.asked;
        outcomes = map-append (λ (d : Decided). d.outcome) waiting.decided (d ∷ []) ∙ ap (λ (z : List (Result ℕ ℕ)). z ++ outcome ∷ []) waiting.outcomes ∙ sym is;
        can = can;
        leads = decides_more project.cap waiting.decided (project_of project.maps) (project_of old.group.maps) (project_of new.group.maps) whole outcome waiting.leads
            (whole_query line whole front none) decides;
      }

  -- the line was accepted
  pub accepted_more : (n : ℕ) → line ≡ take 257 whole → query_of line ≡ None → new.outcomes ≡ old.outcomes ++ Ok n ∷ [] → EndsStage project (Ok (Some n)) old.group new.group line
      → ((staged : List Staged) → CanPut project old.group staged → CanPut project new.group (staged_after staged line (Ok (Some n)))) → IsWaiting project new (lines ++ whole ∷ [])
  accepted_more n front none is (room, accepts) can =
      let same = accepted_whole project.cap (project_of old.group.maps) (project_of new.group.maps) line whole n front accepts in
      more (Ok n) front none is
      (subst (λ (staged : List Staged). CanPut project new.group staged) (sym (staged_more waiting.decided whole (Ok n)))
      (subst (λ (l : List ℕ). CanPut project new.group (staged_of waiting.decided ++ record { line = l; number = n } ∷ [])) (sym same) (can (staged_of waiting.decided) waiting.can)))
      (subst (λ (l : List ℕ). Accepts project.cap (project_of old.group.maps) l (project_of new.group.maps) n) (sym same) accepts)

  -- the line was refused
  pub refused_more : (e : ProjectError) (code : ℕ) → code ≡ code_of e → line ≡ take 257 whole → query_of line ≡ None → new.outcomes ≡ old.outcomes ++ Err code ∷ []
      → EndsStage project (Err e) old.group new.group line
      → ((staged : List Staged) → CanPut project old.group staged → CanPut project new.group (staged_after staged line (Err e))) → IsWaiting project new (lines ++ whole ∷ [])
  refused_more e code code_is front none is (refused, same) can =
      more (Err code) front none is
      (subst (λ (staged : List Staged). CanPut project new.group staged) (sym (staged_more waiting.decided whole (Err code) ∙ nil_behind (staged_of waiting.decided)))
      (can (staged_of waiting.decided) waiting.can))
      (same.1, (e, code_is, refused_whole e project.cap (project_of old.group.maps) line whole front refused))

  -- there was no room for it
  pub same_waiting : new.outcomes ≡ old.outcomes → EndsStage project (Ok None) old.group new.group line
      → ((staged : List Staged) → CanPut project old.group staged → CanPut project new.group (staged_after staged line (Ok None))) → IsWaiting project new lines
  same_waiting is (full, next, same) can = record {
    ready = waiting.ready;
    decided = waiting.decided;
    asked = waiting.asked;
    outcomes = waiting.outcomes ∙ sym is;
    can = can (staged_of waiting.decided) waiting.can;
    leads = subst (λ (m : ProjectMaps). DecidesAll project.cap (project_of project.maps) waiting.decided m) (sym same.1) waiting.leads;
  }

pub not_refused : {T E : Type 0} (x : T) (e : E) → Ok x ≡ Err e → ⊥
not_refused x e same = cc

-- no line waits in a new batch
pub begun_waiting : {D : Type 0} (project : State D) (group : GroupState) (outcomes : List (Result ℕ ℕ)) (waiting : Option Batch) (lines : List (List ℕ)) → is_some waiting ≡ false
    → Waits project waiting lines → outcomes ≡ [] → CanPut project group [] → (project.must_reopen ≡ true → ⊥) → IsWaiting project (record { group = group; outcomes = outcomes }) lines
begun_waiting project group outcomes None lines none same empty can ready = record {
  ready = elim (cases_Bool project.must_reopen) [ inl reopen ↦ absurd (ready reopen) | inr still ↦ still ];
  decided = [];
  asked = sym same;
  outcomes = sym empty;
  can = can;
  leads = can.accepted;
}
begun_waiting project group outcomes (Some batch) lines none same empty can ready = cc

-- ---- None

none_staged : (ds : List Decided) → list_any is_ok (map (λ (d : Decided). d.outcome) ds) ≡ false → staged_of ds ≡ []
none_staged [] none = refl
none_staged (d ∷ ds) none = go (λ any. none_staged ds any) d.outcome none
  where
    go : (list_any is_ok (map (λ (d : Decided). d.outcome) ds) ≡ false → staged_of ds ≡ []) → (outcome : Result ℕ ℕ) → (is_ok outcome || list_any is_ok (map (λ (d : Decided). d.outcome) ds)) ≡ false
        → staged_before d.line outcome (staged_of ds) ≡ []
    go behind (Ok n) any = absurd (true≢false any)
    go behind (Err code) any = behind any

-- a group of lines that were all refused is empty
pub refused_empty : {D : Type 0} (project : State D) (batch : Batch) (lines : List (List ℕ)) (group : GroupState) → batch.group ≡ group → (waits : IsWaiting project batch lines)
    → list_any is_ok (map (λ (d : Decided). d.outcome) waits.decided) ≡ false → IsEmptyFor project group
refused_empty project batch lines group same waits none = (
  waits.ready,
  subst (λ (g : GroupState). CanPut project g []) same (subst (λ (staged : List Staged). CanPut project batch.group staged) (none_staged waits.decided none) waits.can),
)

pub some_empty : {D : Type 0} (project : State D) (left : Option GroupState) → project.must_reopen ≡ false → IfSome left (λ (g : GroupState). CanPut project g []) → IfSome left (IsEmptyFor project)
some_empty project None ready can = tt
some_empty project (Some g) ready can = (ready, can)

-- no line waits in a batch over it
pub empty_waits : {D : Type 0} (project : State D) (batch : Batch) (group : GroupState) → batch.group ≡ group → batch.outcomes ≡ [] → IsEmptyFor project group → Waits project (Some batch) []
empty_waits project batch group same none (ready, can) =
    let here : CanPut project batch.group [] = subst (λ (g : GroupState). CanPut project g []) (sym same) can in
    record { ready = ready; decided = []; asked = refl; outcomes = sym none; can = here; leads = here.accepted }
