-- The answer to a line, by what the line is.
use Rattle.std.proofs.Common.{◌≡◌, ℕ, List, Option, Some, None, Result, Ok, Err, ◌⊎◌, inl, inr, refl, sym, ap, subst, arith}
use Rattle.std.specs.Prelude.{IsOk, MatchOption}
use Rattle.std.specs.Option.{option_map}
use Rattle.map_tables.specs.Outcomes.{Covers}
use Rattle.map_tables.specs.Projects.{ProjectMaps}
use Rattle.map_tables.specs.Tables.{Counts}
use Rattle.map_tables.specs.declared.edit.Need.{Need}
use Rattle.map_commands.specs.Errors.{code_of}
use Rattle.map_commands.specs.ProjectCommands.{InProjectRange, project_spelling}
use Rattle.map_commands.specs.ProjectGrammar.{project_fault_of}
use Rattle.map_commands.specs.ProjectLines.{EndsLine, RefusesCommand}
use Rattle.map_commands.specs.ProjectReadiness.{EndsStep, RefusesStep, project_need_of}
use Rattle.map_commands.specs.ProjectStep.{step}
use Rattle.map_tables.specs.Outcomes.{no_need}
use Rattle.map_commands.specs.declared.error.CommandError.{CommandError}
use Rattle.map_commands.specs.declared.error.CommandError.TheVariants.{NotACommand, OutOfRange, NoVertex, NoSector, NoSide, NoLine, NoThing, InUse, SameEnds, PlaceTaken, TwoSidedWithoutLeft, TableFull, LineTooLong, ProjectFull, BadName, TooManyMaps, MapNameTaken, NoSuchMap, CurrentMap, OutOfMemory}
use Rattle.map_commands.specs.declared.project.command.ProjectCommand.{ProjectCommand}
use Rattle.run_edit.specs.Answers.{AddsItems, ChangesBy, RepliesInMemory, outcome_of}
use Rattle.run_edit.specs.Queries.{IsAnswer, TakesMemory, Unanswered, query_of}
use Rattle.run_edit.specs.Texts.{outcome_text, refused_text}
use Rattle.run_edit.specs.declared.error.EditorError.{EditorError}
use Rattle.run_edit.specs.declared.error.EditorError.TheVariants as editing
use Rattle.run_edit.specs.declared.query.Query.{Query}

-- a refused command is refused by the step's code, but for lack of memory
by_code : (e : CommandError) (change : Result (ProjectMaps × ℕ) ℕ) → RefusesStep e change → (change ≡ Err (code_of e)) ⊎ ((e ≡ OutOfMemory) × IsOk change)
by_code NotACommand change told = inl told
by_code OutOfRange change told = inl told
by_code NoVertex change told = inl told
by_code NoSector change told = inl told
by_code NoSide change told = inl told
by_code NoLine change told = inl told
by_code NoThing change told = inl told
by_code InUse change told = inl told
by_code SameEnds change told = inl told
by_code PlaceTaken change told = inl told
by_code TwoSidedWithoutLeft change told = inl told
by_code TableFull change told = inl told
by_code LineTooLong change told = inl told
by_code ProjectFull change told = inl told
by_code BadName change told = inl told
by_code TooManyMaps change told = inl told
by_code MapNameTaken change told = inl told
by_code NoSuchMap change told = inl told
by_code CurrentMap change told = inl told
by_code OutOfMemory change told = inr (refl, told)

some_step : (change : Result (ProjectMaps × ℕ) ℕ) → IsOk change → (new : ProjectMaps) × (n : ℕ) × (change ≡ Ok (new, n))
some_step (Ok p) ok = (p.0, p.1, refl)
some_step (Err code) ok = cc

-- what a line without a fault is refused for
refused : (cap : ℕ) (old : ProjectMaps) (line : List ℕ) (code : ℕ) (fault : Option ℕ) → fault ≡ None → RefusesCommand cap old line code
    → MatchOption fault (RefusesCommand cap old line code) (λ f. code ≡ f)
refused limit old line code None e told = told
refused limit old line code (Some f) e told = cc

-- what adds nothing takes no memory
covers-none : (spare : Counts) (need : Need) → need ≡ no_need → Covers spare need
covers-none spare need none =
    subst (λ (n : Need). Covers spare n) (sym none)
    (record { vertices = omega arith; sectors = omega arith; sides = omega arith; lines = omega arith; things = omega arith })

-- a command that was tried
pub tried : (cap : ℕ) (old new : ProjectMaps) (line : List ℕ) (c : ProjectCommand) (spare : Counts) (r : Result ℕ CommandError) → InProjectRange c → line ≡ project_spelling c
    → project_fault_of line ≡ None → EndsStep r (step old c cap) old new → (Covers spare (project_need_of c) → r ≡ Err OutOfMemory → ⊥) → ChangesBy cap old line (outcome_of r) new
tried limit old new line c spare (Ok n) range is none ends promised = inl (record { command = c; range = range; line_is = is; stepped = ends })
tried limit old new line c spare (Err e) range is none (told, same) promised =
    elim (by_code e (step old c limit) told) [
      | inl stepped ↦ inl (refused limit old line (code_of e) (project_fault_of line) none (record { command = c; range = range; line_is = is; stepped = stepped }), same)
      | inr (lacks, ok) ↦
          let some = some_step (step old c limit) ok in
          inr (
            ap (λ (x : CommandError). outcome_of (Err x)) lacks,
            record {
              new = some.0;
              number = some.1;
              accepts = record { command = c; range = range; line_is = is; stepped = some.2 };
              adds = λ nothing. promised (covers-none spare (project_need_of c) nothing) (ap Err lacks);
            },
            same,
          )
    ]

-- a line that is no query
pub replies-command : (cap : ℕ) (old new : ProjectMaps) (line : List ℕ) (outcome : Result ℕ ℕ) → None ≡ option_map (λ q. q.1) (query_of line)
    → ChangesBy cap old line outcome new → RepliesInMemory cap old line (outcome_text outcome) new
replies-command limit old new line outcome none (inl ends) = inl (go (query_of line) none)
  where
    go : (q : Option (List ℕ × Query)) → None ≡ option_map (λ q. q.1) q
        → MatchOption q ((out : Result ℕ ℕ) × EndsLine limit old line out new × (outcome_text outcome ≡ outcome_text out)) (λ q. IsAnswer old q.1 (outcome_text outcome) × (new ≡ old))
    go None e = (outcome, ends, refl)
    go (Some q) e = cc
replies-command limit old new line outcome none (inr (is, adds, same)) = inr ((go (query_of line) none, same), ap outcome_text is)
  where
    go : (q : Option (List ℕ × Query)) → None ≡ option_map (λ q. q.1) q → MatchOption q (AddsItems limit old line) (λ q. TakesMemory q.1)
    go None e = adds
    go (Some q) e = cc

-- a query
pub replies-query : (cap : ℕ) (m : ProjectMaps) (line text : List ℕ) (q : Query) → Some q ≡ option_map (λ q. q.1) (query_of line)
    → IsAnswer m q text → RepliesInMemory cap m line text m
replies-query limit m line text q some told = inl (go (query_of line) some)
  where
    go : (o : Option (List ℕ × Query)) → Some q ≡ option_map (λ q. q.1) o
        → MatchOption o ((out : Result ℕ ℕ) × EndsLine limit m line out m × (text ≡ outcome_text out)) (λ r. IsAnswer m r.1 text × (m ≡ m))
    go None e = cc
    go (Some r) e = let same : q ≡ r.1 = cc in (subst (λ (x : Query). IsAnswer m x text) same told, refl)

-- a query that found no memory
pub replies-lack : (cap : ℕ) (m : ProjectMaps) (line : List ℕ) (q : Query) (code : ℕ) → Some q ≡ option_map (λ q. q.1) (query_of line) → TakesMemory q
    → code ≡ 31 → RepliesInMemory cap m line (refused_text code) m
replies-lack limit m line q code some takes is = inr ((go (query_of line) some, refl), ap refused_text is)
  where
    go : (o : Option (List ℕ × Query)) → Some q ≡ option_map (λ q. q.1) o → MatchOption o (AddsItems limit m line) (λ r. TakesMemory r.1)
    go None e = cc
    go (Some r) e = let same : q ≡ r.1 = cc in subst (λ (x : Query). TakesMemory x) same takes

-- ---- Where no answer was written

-- some text is an answer, or there was no memory
pub some_answer : (p : ProjectMaps) (q : Query) (e : EditorError) (u w : Option (List ℕ)) → Unanswered e (λ text. IsAnswer p q text) (TakesMemory q) u w
    → ((text : List ℕ) × IsAnswer p q text) ⊎ TakesMemory q
some_answer p q editing.OutOfMemory u w none = inr (none.lacks refl)
some_answer p q editing.WriterFailed u w none = inl (none.failed refl)
some_answer p q editing.InputTooLong u w none = absurd none.unwritten
some_answer p q editing.ReaderFailed u w none = absurd none.unwritten

-- and so some text may be answered to the line
pub some_reply : (cap : ℕ) (p : ProjectMaps) (line : List ℕ) (q : Query) (e : EditorError) (u w : Option (List ℕ)) → Some q ≡ option_map (λ q. q.1) (query_of line)
    → Unanswered e (λ text. IsAnswer p q text) (TakesMemory q) u w → (text : List ℕ) × RepliesInMemory cap p line text p
some_reply limit p line q e u w some none =
    elim (some_answer p q e u w none) [
      | inl told ↦ (told.0, replies-query limit p line told.0 q some told.1)
      | inr takes ↦ (refused_text 31, replies-lack limit p line q 31 some takes refl)
    ]
