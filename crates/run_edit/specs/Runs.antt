-- What a run has read, answered and written (docs/COMMANDS.md, "Lines and turns"). The type of the
-- state and the answers that a line may have are parameters: maps in memory have their own, and a
-- project file has its own.
use Rattle.std.specs.Prelude.{◌≡◌, ◌≤◌, ◌*◌, ◌⊎◌, ℕ, List, [], ◌∷◌, ◌++◌, length, map, flat_map, Result, Ok, Err, Option, MatchResult, OnOk, IfOk}
use Rattle.std.specs.Io.KnownBytes.{Consumes, Appends, IsAtEnd, Keeps}
use Rattle.run_edit.specs.Lines.{IsBegun, whole_lines, unfinished, lines_of}
use Rattle.run_edit.specs.Texts.{refused_text}
use Rattle.run_edit.specs.declared.error.EditorError.{EditorError}
use Rattle.run_edit.specs.declared.error.EditorError.TheVariants.{OutOfMemory, InputTooLong, ReaderFailed, WriterFailed}

-- ---- Traces

-- a line, and the text that answered it
pub record Exchange : Type 0 where
  pub line : List ℕ
  pub text : List ℕ

-- each line was answered in turn, from one state to the next
abbrev pub IsTrace : {S : Type 0} → (S → List ℕ → List ℕ → S → Type 0) → S → List Exchange → S
    → Type 0
IsTrace answers first [] last = last ≡ first
IsTrace {S = S} answers first (e ∷ trace) last =
    (mid : S) × answers first e.line e.text mid × IsTrace answers mid trace last

-- the lines of a trace
abbrev pub lines_in : List Exchange → List (List ℕ)
lines_in trace = map (λ e. e.line) trace

-- the texts of a trace, one after the other
abbrev pub output_of : List Exchange → List ℕ
output_of trace = flat_map (λ e. e.text) trace

-- the list begins with this front
abbrev pub IsFront : {X : Type 0} → List X → List X → Type 0
IsFront {X = X} front xs = (back : List X) × (xs ≡ front ++ back)

-- ---- One line

-- what may be answered to a line, and the state after it: its answer, or `no 31` if it can need
-- memory
abbrev pub Replies : {S : Type 0} → (S → List ℕ → List ℕ → S → Type 0) → (S → List ℕ → S → Type 0)
    → S → List ℕ → List ℕ → S → Type 0
Replies answers lacks old line text new =
    answers old line text new ⊎ (lacks old line new × (text ≡ refused_text 31))

-- an answer to the line led to the new state; it was written, or the writer failed
abbrev pub AnswersLine : {S U : Type 0} → (S → List ℕ → List ℕ → S → Type 0) → Result U EditorError
    → S → S → List ℕ
    → Option (List ℕ) → Option (List ℕ) → Type 0
AnswersLine answers result old new line writer-old writer-new =
    (text : List ℕ) × answers old line text new
    × MatchResult result (λ _. Appends writer-old writer-new text) (λ e. e ≡ WriterFailed)

-- a call that should write was refused: for lack of memory, with nothing written, or because the
-- writer failed
abbrev pub Unwritten : EditorError → Option (List ℕ) → Option (List ℕ) → Type 0
Unwritten OutOfMemory writer-old writer-new = Keeps writer-old writer-new
Unwritten WriterFailed writer-old writer-new = Unit {0}
Unwritten InputTooLong writer-old writer-new = ⊥
Unwritten ReaderFailed writer-old writer-new = ⊥

-- ---- Some lines

-- no line waits
abbrev pub none_waits : List (List ℕ) → Type 0
none_waits lines = lines ≡ []

-- How a call ended that was given these lines to answer: it wrote the answers to the first of them,
-- and the others wait; or the writer failed after some of them were answered.
abbrev pub EndsTaking : {U : Type 0} → (List (List ℕ) → Type 0) → Result U EditorError
    → List Exchange → List (List ℕ) → Option (List ℕ) → Option (List ℕ) → Type 0
EndsTaking waits (Ok _) trace lines writer-old writer-new =
    (left : List (List ℕ)) × waits left × (lines ≡ lines_in trace ++ left)
    × Appends writer-old writer-new (output_of trace)
EndsTaking waits (Err WriterFailed) trace lines writer-old writer-new =
    IsFront (lines_in trace) lines
EndsTaking waits (Err _) trace lines writer-old writer-new = ⊥

-- the same, with some trace that goes from one state to the other
abbrev pub TakesLines : {S U : Type 0} → (S → List Exchange → S → Type 0) → (List (List ℕ) → Type 0)
    → Result U EditorError → S → S → List (List ℕ) → Option (List ℕ) → Option (List ℕ) → Type 0
TakesLines goes waits result old new lines writer-old writer-new =
    (trace : List Exchange) × goes old trace new
    × EndsTaking waits result trace lines writer-old writer-new

-- How a call ended that took more bytes after a part of a line, while some lines waited: each line
-- that the bytes end was taken behind those, and the first bytes of the unfinished line are kept.
pub record Feeds {S : Type 0} (goes : S → List Exchange → S → Type 0)
    (waits : List (List ℕ) → Type 0) (result : Result ℕ EditorError) (old new : S)
    (waiting : List (List ℕ)) (part more kept : List ℕ) (writer-old writer-new : Option (List ℕ)) :
    Type 0 where
  pub ends : TakesLines goes waits result old new (waiting ++ whole_lines (part ++ more)) writer-old
      writer-new
  pub count : IfOk result (λ n. n ≡ length (whole_lines (part ++ more)))
  pub begun : OnOk result (IsBegun kept (unfinished (part ++ more)))

-- ---- A run

-- these lines were answered, and the writer has the answers appended
pub record Answered (trace : List Exchange) (lines : List (List ℕ))
    (writer-old writer-new : Option (List ℕ)) : Type 0 where
  pub asked : lines_in trace ≡ lines
  pub output : Appends writer-old writer-new (output_of trace)

-- How a run of so many turns ended after it read these bytes. If it returned Ok, it answered all
-- lines. If the reader failed or the turns were used up, it answered all lines that it read whole;
-- each of these turns read at least one byte. It never ends for lack of memory: then a line is
-- answered `no 31`.
abbrev pub EndsRun : Result ℕ EditorError → ℕ → List Exchange → List ℕ → Option (List ℕ)
    → Option (List ℕ) → Type 0
EndsRun (Ok n) turns trace read writer-old writer-new =
    (n ≡ length (lines_of read)) × Answered trace (lines_of read) writer-old writer-new
EndsRun (Err InputTooLong) turns trace read writer-old writer-new =
    (turns ≤ length read) × Answered trace (whole_lines read) writer-old writer-new
EndsRun (Err ReaderFailed) turns trace read writer-old writer-new =
    Answered trace (whole_lines read) writer-old writer-new
EndsRun (Err WriterFailed) turns trace read writer-old writer-new =
    IsFront (lines_in trace) (lines_of read)
EndsRun (Err OutOfMemory) turns trace read writer-old writer-new = ⊥

-- A run of so many turns of at most 4,096 bytes each: it read these bytes, all that there were if
-- it returned Ok; its answers go from the first state to the last; and `ends` says how the run over
-- these bytes ended.
pub record Ran {S : Type 0} (goes : S → List Exchange → S → Type 0) (first last : S)
    (trace : List Exchange) (turns : ℕ) (result : Result ℕ EditorError)
    (reader-old reader-new writer-old writer-new : Option (List ℕ)) : Type 0 where
  pub read : List ℕ
  pub took : Consumes reader-old reader-new read
  pub few : length read ≤ 4096 * turns
  pub whole : OnOk result (IsAtEnd reader-new)
  pub in_turn : goes first trace last
  pub ends : EndsRun result turns trace read writer-old writer-new
