-- The answer to a line over a project, by what the line is; a long line is answered as its front.
use Rattle.std.proofs.Common.{◌≡◌, ◌⊎◌, inl, inr, ℕ, ◌<◌, ◌≤◌, Bool, true, false, List, Option, Some, None, Result, Ok, Err, length, take, refl, ap, subst, arith}
use Rattle.std.specs.Prelude.{MatchOption, is_some, nat_lt}
use Rattle.std.specs.Option.{option_map}
use Rattle.std.proofs.lemmas.Bool.{ltb-false, ltb-true}
use Rattle.std.proofs.lemmas.List.{take_all, length-take-le}
use Rattle.store_disk.specs.declared.disk.Disk.{Ghosts}
use Rattle.store_disk.proofs.Moments.{weaker}
use Rattle.map_tables.specs.Projects.{MapsView, ProjectMaps, project_of}
use Rattle.map_commands.specs.Errors as commands
use Rattle.map_commands.specs.ProjectGrammar.{project_fault_of}
use Rattle.store_project.specs.Calls.{Applies}
use Rattle.store_project.specs.Outcomes.{EndsApply, RefusesApply}
use Rattle.store_project.specs.Stands.{IsOutcome}
use Rattle.store_project.specs.States.{State}
use Rattle.store_project.specs.declared.error.ProjectError.{ProjectError}
use Rattle.store_project.specs.declared.error.ProjectError.TheVariants.{Device, OutOfMemory, Reopen, GenerationsSpent, Refused, Damaged, Blank, NotAProject, NotEmpty, BadGeometry}
use Rattle.run_edit.specs.Editing.{AnswersQuery, IsTold, MayLack, RepliesInProject, RepliesToQuery, outcome_in, told_of}
use Rattle.run_edit.specs.Queries.{IsAnswer, TakesMemory, Unanswered, query_of}
use Rattle.run_edit.specs.Texts.{outcome_text, refused_text}
use Rattle.run_edit.specs.declared.error.EditorError.{EditorError}
use Rattle.run_edit.specs.declared.query.Query.{Query}
use Rattle.run_edit.proofs.Answering.{some_answer}
use Rattle.run_edit.proofs.LongLines.{long-accepts, long-fault, long-query, long-refused, refused-long}

-- what a line is that is no query
at_none : (P : Type 0) (Q : List ℕ × Query → Type 0) (o : Option (List ℕ × Query)) → o ≡ None → MatchOption o P Q → P
at_none P Q None e told = told
at_none P Q (Some q) e told = cc

to_none : (P : Type 0) (Q : List ℕ × Query → Type 0) (o : Option (List ℕ × Query)) → o ≡ None → P → MatchOption o P Q
to_none P Q None e told = told
to_none P Q (Some q) e told = cc

some_to : (P : Type 0) (Q : Query → Type 0) (o : Option (List ℕ × Query)) (q : Query) → Some q ≡ option_map (λ q. q.1) o → Q q → MatchOption o P (λ r. Q r.1)
some_to P Q None q e told = cc
some_to P Q (Some r) q e told = let same : q ≡ r.1 = cc in subst Q same told

pub none_of : (o : Option (List ℕ × Query)) → None ≡ option_map (λ q. q.1) o → o ≡ None
none_of None e = refl
none_of (Some q) e = cc

module _ {D : Type 0} (facts : Ghosts D) where
  abbrev Told : State D → List ℕ → List ℕ → State D → Type 0
  Told = RepliesInProject facts

  abbrev Tried : State D → List ℕ → List ℕ → State D → Type 0
  Tried = IsTold facts

  -- ---- A long line

  long_refusal : (e : ProjectError) (old new : State D) (a b : List ℕ) → 256 < length a → 256 < length b → RefusesApply facts e old new a → RefusesApply facts e old new b
  long_refusal Device old new a b long longer told = told
  long_refusal OutOfMemory old new a b long longer (ready, still, (next, (n, accepts))) = absurd (long-accepts old.cap (project_of old.maps) next a n long accepts)
  long_refusal Reopen old new a b long longer told = told
  long_refusal GenerationsSpent old new a b long longer (ready, still, last, above, (next, (n, accepts))) = absurd (long-accepts old.cap (project_of old.maps) next a n long accepts)
  long_refusal (Refused e) old new a b long longer (ready, still, told) = (
    ready,
    still,
    refused-long old.cap (project_of old.maps) b (commands.code_of e) (project_fault_of b) (long-fault b longer)
        (long-refused old.cap (project_of old.maps) a (commands.code_of e) (project_fault_of a) (long-fault a long) told),
  )
  long_refusal (Damaged place) old new a b long longer told = absurd told
  long_refusal Blank old new a b long longer told = absurd told
  long_refusal NotAProject old new a b long longer told = absurd told
  long_refusal NotEmpty old new a b long longer told = absurd told
  long_refusal BadGeometry old new a b long longer told = absurd told

  long_ends : (answer : Result ℕ ProjectError) (old new : State D) (a b : List ℕ) → 256 < length a → 256 < length b → EndsApply facts answer old new a → EndsApply facts answer old new b
  long_ends (Ok n) old new a b long longer (ready, still, accepts) = absurd (long-accepts old.cap (project_of old.maps) (project_of new.maps) a n long accepts)
  long_ends (Err e) old new a b long longer (same, told) = (same, long_refusal e old new a b long longer told)

  long_memory : (old new : State D) (a : List ℕ) → 256 < length a → EndsApply facts (Err OutOfMemory) old new a → ⊥
  long_memory old new a long (same, (ready, still, (next, (n, accepts)))) = long-accepts old.cap (project_of old.maps) next a n long accepts

  long_outcome : (cap : ℕ) (map : ProjectMaps) (a b : List ℕ) → 256 < length a → (file : List ℕ) → IsOutcome cap map a file → IsOutcome cap map b file
  long_outcome cap map a b long file (inl stands) = inl stands
  long_outcome cap map a b long file (inr (next, (n, accepts), stands)) = absurd (long-accepts cap map next a n long accepts)

  long_tried : (old new : State D) (a b text : List ℕ) → 256 < length a → 256 < length b → Tried old a text new → Tried old b text new
  long_tried old new a b text long longer (answer, p, is) = (
    answer,
    record {
      ends = long_ends answer old new a b long longer p.ends;
      any_moment =
          λ ready.
          weaker facts old.disk new.disk (IsOutcome old.cap (project_of old.maps) a) (IsOutcome old.cap (project_of old.maps) b) (p.any_moment ready)
          (long_outcome old.cap (project_of old.maps) a b long);
      refused_moment = p.refused_moment;
      memory = λ lacks. absurd (long_memory old new a long (subst (λ (r : Result ℕ ProjectError). EndsApply facts r old new a) lacks p.ends));
      kept = p.kept;
      same_cap = p.same_cap;
    },
    is,
  )

  long_told : (old new : State D) (a b text : List ℕ) → 256 < length a → 256 < length b → Told old a text new → Told old b text new
  long_told old new a b text long longer (inl told) =
      inl (to_none (Tried old b text new) (λ q. AnswersQuery (told_of old) q.1 text × (new ≡ old)) (query_of b) (long-query b longer)
      (long_tried old new a b text long longer (at_none (Tried old a text new) (λ q. AnswersQuery (told_of old) q.1 text × (new ≡ old)) (query_of a) (long-query a long) told)))
  long_told old new a b text long longer (inr ((lacks, same), is)) = absurd (at_none ⊥ (λ q. MayLack (told_of old) q.1) (query_of a) (long-query a long) lacks)

  -- a line is answered as its front
  pub long_line : (old new : State D) (line text : List ℕ) → Told old (take 257 line) text new → Told old line text new
  long_line old new line text told = go (nat_lt 257 (length line)) refl
    where
      go : (t : Bool) → nat_lt 257 (length line) ≡ t → Told old line text new
      go false e =
          let short : length line ≤ 257 = ltb-false 257 (length line) e in
          subst (λ (l : List ℕ). Told old l text new) (take_all 257 line short) told
      go true e =
          let long : 257 < length line = ltb-true 257 (length line) e in
          let front : length (take 257 line) ≡ 257 = length-take-le 257 line (omega arith) in
          long_told old new (take 257 line) line text (omega arith) (omega arith) told

  -- ---- What a line is

  -- a line that is no query
  pub replies_change : (old new : State D) (line : List ℕ) (outcome : Result ℕ ℕ) → None ≡ option_map (λ q. q.1) (query_of line)
      → ((answer : Result ℕ ProjectError) × Applies facts old line answer new × (outcome ≡ outcome_in answer))
      → Told old line (outcome_text outcome) new
  replies_change old new line outcome none (answer, applies, is) =
      inl (to_none (Tried old line (outcome_text outcome) new) (λ q. AnswersQuery (told_of old) q.1 (outcome_text outcome) × (new ≡ old)) (query_of line) (none_of (query_of line) none)
      (answer, applies, ap outcome_text is))

  -- a query
  pub replies_query : (m : State D) (line text : List ℕ) (q : Query) → Some q ≡ option_map (λ q. q.1) (query_of line) → RepliesToQuery (told_of m) q text → Told m line text m
  replies_query m line text q some (inl told) = inl (some_to (Tried m line text m) (λ x. AnswersQuery (told_of m) x text × (m ≡ m)) (query_of line) q some (told, refl))
  replies_query m line text q some (inr (lacks, is)) = inr ((some_to ⊥ (λ x. MayLack (told_of m) x) (query_of line) q some lacks, refl), is)

-- a query that was answered of the project's maps
pub query_told : {D : Type 0} (m : State D) (maps : MapsView) (q : Query) (text : List ℕ) → maps ≡ m.maps → m.must_reopen ≡ false
    → IsAnswer (project_of maps) q text → RepliesToQuery (told_of m) q text
query_told m maps q text same ready told =
    inl (inr (ready, subst (λ (v : MapsView). IsAnswer (project_of v) q text) same told))

-- where no answer was written, some text may be answered
pub query_untold : {D : Type 0} (m : State D) (maps : MapsView) (q : Query) (e : EditorError) (u w : Option (List ℕ)) → maps ≡ m.maps → m.must_reopen ≡ false
    → Unanswered e (λ text. IsAnswer (project_of maps) q text) (TakesMemory q) u w → (text : List ℕ) × RepliesToQuery (told_of m) q text
query_untold m maps q e u w same ready none =
    elim (some_answer (project_of maps) q e u w none) [
      | inl told ↦ (told.0, query_told m maps q told.0 same ready told.1)
      | inr takes ↦ (refused_text 31, inr ((ready, takes), refl))
    ]

-- a query leaves the project as it is
pub query_stays : {D : Type 0} (facts : Ghosts D) (old new : State D) (line text : List ℕ) (found : Option Query) → found ≡ option_map (λ q. q.1) (query_of line) → is_some found ≡ true
    → RepliesInProject facts old line text new → new ≡ old
query_stays facts old new line text found is some replies = go (query_of line) found is some replies
  where
    go : (o : Option (List ℕ × Query)) (found : Option Query) → found ≡ option_map (λ q. q.1) o → is_some found ≡ true
        → MatchOption o (IsTold facts old line text new) (λ q. AnswersQuery (told_of old) q.1 text × (new ≡ old)) ⊎ ((MatchOption o ⊥ (λ q. MayLack (told_of old) q.1) × (new ≡ old)) × (text ≡ refused_text 31))
        → new ≡ old
    go None found is some replies = cc
    go (Some q) found is some (inl (told, same)) = same
    go (Some q) found is some (inr ((lacks, same), lacking)) = same
