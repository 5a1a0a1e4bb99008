-- A line of more than 256 bytes is no query and no command, whatever stands behind its 257th byte.
use Rattle.std.proofs.Common.{◌≡◌, ◌∙◌, ℕ, ◌<◌, ◌≤◌, List, [], ◌∷◌, length, take, refl, sym, ap, subst, inl, inr, true, false, cond, Bool, arith, nat_eq}
use Rattle.std.specs.Prelude.{Option, Some, None, ◌&&◌, MatchOption, Result, Ok, Err, bytes_eq, find, nat_le, nat_lt}
use Rattle.std.specs.List.{list_all}
use Rattle.std.proofs.Math.Bool.{and-false}
use Rattle.std.proofs.lemmas.Bool.{leb-true, lt-ltb, ltb-false, ltb-true}
use Rattle.std.proofs.lemmas.List.{take_all, length-take-le}
use Rattle.map_tables.specs.Projects.{ProjectMaps}
use Rattle.map_commands.specs.ProjectGrammar.{project_command_fault, project_fault_of}
use Rattle.map_commands.specs.ProjectLines.{Accepts, EndsLine, RefusesCommand}
use Rattle.map_words.specs.Words.{parts}
use Rattle.map_commands.proofs.ProjectWords.{project_spelling-accepted}
use Rattle.run_edit.specs.Answers.{AddsItems, RepliesInMemory}
use Rattle.run_edit.specs.Queries.{IsAnswer, TakesMemory, query_of, queries}
use Rattle.run_edit.specs.Texts.{outcome_text}
use Rattle.run_edit.specs.declared.query.Query.{Query}

-- texts of different lengths are different
pub bytes-differ : (xs ys : List ℕ) → length ys < length xs → bytes_eq xs ys ≡ false
bytes-differ [] [] lt = absurd (omega arith)
bytes-differ [] (y ∷ ys) lt = absurd (omega arith)
bytes-differ (x ∷ xs) [] lt = refl
bytes-differ (x ∷ xs) (y ∷ ys) lt = ap (λ t. nat_eq x y && t) (bytes-differ xs ys (omega arith)) ∙ and-false (nat_eq x y)

both-true : (s t : Bool) → (s && t) ≡ true → (s ≡ true) × (t ≡ true)
both-true true t e = (refl, e)
both-true false t e = cc

-- no text as short as these is the line
none-found : (qs : List (List ℕ × Query)) (line : List ℕ) → 256 < length line → list_all (λ q. nat_le (length q.0) 256) qs ≡ true
    → find (λ q. bytes_eq line q.0) qs ≡ None
none-found [] line long short = refl
none-found (q ∷ qs) line long short =
    let both = both-true (nat_le (length q.0) 256) (list_all (λ r. nat_le (length r.0) 256) qs) short in
    let here : length q.0 ≤ 256 = leb-true (length q.0) 256 both.0 in
    ap (λ t. cond t (Some q) (find (λ r. bytes_eq line r.0) qs)) (bytes-differ line q.0 (omega arith)) ∙ none-found qs line long both.1

pub long-query : (line : List ℕ) → 256 < length line → query_of line ≡ None
long-query line long = none-found queries line long refl

pub long-fault : (line : List ℕ) → 256 < length line → project_fault_of line ≡ Some 1
long-fault line long = ap (λ t. cond t (Some 1) (project_command_fault (parts line))) (lt-ltb 256 (length line) long)

-- it is no command's line
pub long-accepts : (cap : ℕ) (old new : ProjectMaps) (line : List ℕ) (n : ℕ) → 256 < length line → Accepts cap old line new n → ⊥
long-accepts limit old new line n long accepts =
    let none : project_fault_of line ≡ None = ap project_fault_of accepts.line_is ∙ project_spelling-accepted accepts.command accepts.range in
    let one : project_fault_of line ≡ Some 1 = long-fault line long in
    cc

pub long-refused : (cap : ℕ) (old : ProjectMaps) (line : List ℕ) (code : ℕ) (fault : Option ℕ) → fault ≡ Some 1
    → MatchOption fault (RefusesCommand cap old line code) (λ f. code ≡ f) → code ≡ 1
long-refused limit old line code None e told = cc
long-refused limit old line code (Some f) e told = let is : f ≡ 1 = cc in told ∙ is

pub refused-long : (cap : ℕ) (old : ProjectMaps) (line : List ℕ) (code : ℕ) (fault : Option ℕ) → fault ≡ Some 1
    → code ≡ 1 → MatchOption fault (RefusesCommand cap old line code) (λ f. code ≡ f)
refused-long limit old line code None e told = cc
refused-long limit old line code (Some f) e told = let is : f ≡ 1 = cc in told ∙ sym is

-- the outcome of such a line is that it is no command
long-ends : (cap : ℕ) (old new : ProjectMaps) (a b : List ℕ) (outcome : Result ℕ ℕ) → 256 < length a → 256 < length b → EndsLine cap old a outcome new → EndsLine cap old b outcome new
long-ends limit old new a b (Ok n) long longer ends = absurd (long-accepts limit old new a n long ends)
long-ends limit old new a b (Err code) long longer (told, same) =
    (refused-long limit old b code (project_fault_of b) (long-fault b longer) (long-refused limit old a code (project_fault_of a) (long-fault a long) told), same)

-- the answer to a line that is no query
of_none : (cap : ℕ) (old new : ProjectMaps) (line text : List ℕ) (q : Option (List ℕ × Query)) → q ≡ None
    → MatchOption q ((outcome : Result ℕ ℕ) × EndsLine cap old line outcome new × (text ≡ outcome_text outcome)) (λ q. IsAnswer old q.1 text × (new ≡ old))
    → (outcome : Result ℕ ℕ) × EndsLine cap old line outcome new × (text ≡ outcome_text outcome)
of_none limit old new line text None e told = told
of_none limit old new line text (Some q) e told = cc

to_none : (cap : ℕ) (old new : ProjectMaps) (line text : List ℕ) (q : Option (List ℕ × Query)) → q ≡ None
    → ((outcome : Result ℕ ℕ) × EndsLine cap old line outcome new × (text ≡ outcome_text outcome))
    → MatchOption q ((outcome : Result ℕ ℕ) × EndsLine cap old line outcome new × (text ≡ outcome_text outcome)) (λ q. IsAnswer old q.1 text × (new ≡ old))
to_none limit old new line text None e told = told
to_none limit old new line text (Some q) e told = cc

-- a line that is no query needs memory only where it is accepted
adds : (cap : ℕ) (old : ProjectMaps) (line : List ℕ) (q : Option (List ℕ × Query)) → q ≡ None → MatchOption q (AddsItems cap old line) (λ q. TakesMemory q.1) → AddsItems cap old line
adds limit old line None e needs = needs
adds limit old line (Some q) e needs = cc

long-told : (cap : ℕ) (old new : ProjectMaps) (a b text : List ℕ) → 256 < length a → 256 < length b → RepliesInMemory cap old a text new → RepliesInMemory cap old b text new
long-told limit old new a b text long longer (inl told) =
    let was = of_none limit old new a text (query_of a) (long-query a long) told in
    inl (to_none limit old new b text (query_of b) (long-query b longer) (was.0, long-ends limit old new a b was.0 long longer was.1, was.2))
long-told limit old new a b text long longer (inr ((needs, same), is)) =
    let some = adds limit old a (query_of a) (long-query a long) needs in
    absurd (long-accepts limit old some.new a some.number long some.accepts)

-- a line is answered as its front
pub long_line : (cap : ℕ) (old new : ProjectMaps) (line text : List ℕ) → RepliesInMemory cap old (take 257 line) text new → RepliesInMemory cap old line text new
long_line limit old new line text told = go (nat_lt 257 (length line)) refl
  where
    go : (t : Bool) → nat_lt 257 (length line) ≡ t → RepliesInMemory limit old line text new
    go false e =
        let short : length line ≤ 257 = ltb-false 257 (length line) e in
        subst (λ (l : List ℕ). RepliesInMemory limit old l text new) (take_all 257 line short) told
    go true e =
        let long : 257 < length line = ltb-true 257 (length line) e in
        let front : length (take 257 line) ≡ 257 = length-take-le 257 line (omega arith) in
        long-told limit old new (take 257 line) line text (omega arith) (omega arith) told
