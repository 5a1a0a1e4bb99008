-- What a person's lines get where standard input and standard output are a terminal
-- (docs/COMMANDS.md, "At a terminal").
use Rattle.std.specs.Prelude.{◌≡◌, ◌≤◌, ◌⊎◌, ℕ, Bool, true, false, ◌&&◌, ◌||◌, not, nat_eq, nat_le, List, [], ◌∷◌, ◌++◌, length, filter, codes, bytes_eq, Option, Result, Ok, Err}
use Rattle.std.specs.List.{list_any, starts_with}
use Rattle.std.specs.Io.KnownBytes.{Appends, Consumes, IsAtEnd, Keeps}
use Rattle.store_disk.specs.declared.disk.Disk.{Ghosts}
use Rattle.map_tables.specs.Projects.{ProjectMaps, empty_project}
use Rattle.store_project.specs.States.{State}
use Rattle.run_edit.specs.Answers.{RepliesInMemory}
use Rattle.run_edit.specs.Editing.{RepliesInProject}
use Rattle.run_edit.specs.Lines.{lines_of, whole_lines}
use Rattle.run_edit.specs.Recovery.{IsOnlyRead}
use Rattle.run_edit.specs.Runs.{Answered, Exchange, IsFront, IsTrace, lines_in, output_of}
use Rattle.run_edit.specs.Sessions.{RunsOver}
use Rattle.run_edit.specs.declared.error.EditorError.{EditorError}
use Rattle.run_edit.specs.declared.error.EditorError.TheVariants.{OutOfMemory, InputTooLong, ReaderFailed, WriterFailed}
use Rattle.cli_refusals.specs.declared.refusal.Refusal.{Refusal}
use Rattle.cli_refusals.specs.declared.refusal.Refusal.TheVariants as of
use Rattle.cli_sources.specs.Opened.{IsOpenedFrom, NotOpened}

-- ---- A line

-- the line ends the session
abbrev pub quits : List ℕ → Bool
quits line = bytes_eq line (codes "quit") || bytes_eq line (codes "exit")

-- the line asks for help: `help`, alone or with more behind a space, in 256 bytes at most
abbrev pub asks_help : List ℕ → Bool
asks_help line =
    nat_le (length line) 256
    && (bytes_eq line (codes "help") || starts_with nat_eq line (codes "help "))

-- what a line gets: if it asks for help some text, which changes nothing; and else its answer
abbrev pub RepliesTyped : {S : Type 0} → (S → List ℕ → List ℕ → S → Type 0) → S → List ℕ → List ℕ
    → S → Type 0
RepliesTyped answers old line text new =
    (asks_help line ≡ true → new ≡ old) × (asks_help line ≡ false → answers old line text new)

-- ---- A session

-- the lines that were answered, of those that got a text
abbrev pub but_help : List Exchange → List Exchange
but_help trace = filter (λ e. not (asks_help e.line)) trace

-- how many bytes a session reads at most
abbrev pub longest_input : ℕ
longest_input = 4294967296

-- How a session ended that read these bytes, byte by byte. Either all lines got their texts up to
-- the end of the input; or all in front of the last one, which ended the session, and nothing was
-- read behind it. Where the reader failed or the bytes were too many, each whole line got its text.
abbrev pub EndsTyped : Result Unit EditorError → List Exchange → List ℕ → Option (List ℕ)
    → Option (List ℕ) → Option (List ℕ) → Type 0
EndsTyped (Ok _) trace read reader-new writer-old writer-new =
    (IsAtEnd reader-new × Answered trace (lines_of read) writer-old writer-new)
    ⊎ ((last : List ℕ) × (quits last ≡ true) × (lines_of read ≡ lines_in trace ++ last ∷ [])
    × Appends writer-old writer-new (output_of trace))
EndsTyped (Err ReaderFailed) trace read reader-new writer-old writer-new =
    Answered trace (whole_lines read) writer-old writer-new
EndsTyped (Err InputTooLong) trace read reader-new writer-old writer-new =
    (longest_input ≤ length read) × Answered trace (whole_lines read) writer-old writer-new
EndsTyped (Err WriterFailed) trace read reader-new writer-old writer-new =
    IsFront (lines_in trace) (lines_of read)
EndsTyped (Err OutOfMemory) trace read reader-new writer-old writer-new = ⊥

-- A session with a person: none of the lines that got a text ends it, and those of them that ask for
-- no help were answered in turn.
pub record Typed {S : Type 0} (answers : S → List ℕ → List ℕ → S → Type 0) (first last : S)
    (trace : List Exchange) (result : Result Unit EditorError)
    (reader-old reader-new writer-old writer-new : Option (List ℕ)) : Type 0 where
  pub read : List ℕ
  pub took : Consumes reader-old reader-new read
  pub few : length read ≤ longest_input
  pub in_turn : IsTrace answers first (but_help trace) last
  pub stays : list_any quits (lines_in trace) ≡ false
  pub ends : EndsTyped result trace read reader-new writer-old writer-new

-- ---- Requests

-- the length of the longest body of one map, in bytes: what the maps in memory have room for
abbrev pub longest_body : ℕ
longest_body = 2007002

-- how a request ended that was a session: 0 where it was left, and else refused as the session was
abbrev pub typed_end : Result Unit EditorError → Result ℕ Refusal
typed_end (Ok _) = Ok 0
typed_end (Err e) = Err (of.Lines e)

-- there was a session over the empty project in memory
abbrev pub IsTypedInMemory : Result ℕ Refusal → Option (List ℕ) → Option (List ℕ) → Option (List ℕ)
    → Option (List ℕ) → Type 0
IsTypedInMemory how reader-old reader-new writer-old writer-new =
    (result : Result Unit EditorError) × (last : ProjectMaps) × (trace : List Exchange)
    × (how ≡ typed_end result)
    × Typed (RepliesInMemory longest_body) empty_project last trace result
    reader-old reader-new writer-old writer-new

-- there was a session over a project, and its lines are calls, each of which met its contract
abbrev pub TypesOver : {D : Type 0} → Ghosts D → State D → State D → Result ℕ Refusal
    → Option (List ℕ) → Option (List ℕ) → Option (List ℕ) → Option (List ℕ) → Type 0
TypesOver facts first last how reader-old reader-new writer-old writer-new =
    (result : Result Unit EditorError) × (trace : List Exchange) × (how ≡ typed_end result)
    × Typed (RepliesInProject facts) first last trace result
    reader-old reader-new writer-old writer-new
    × RunsOver facts first last (but_help trace)

-- No project was opened, and nothing read or written; or there was a session over the one that the
-- disk's bytes stand for, and the disk is as the session left it.
abbrev pub IsTypedOver : {D : Type 0} → Ghosts D → D → D → Result ℕ Refusal → Option (List ℕ)
    → Option (List ℕ) → Option (List ℕ) → Option (List ℕ) → Type 0
IsTypedOver {D = D} facts before after how reader-old reader-new writer-old writer-new =
    (NotOpened facts before after how × IsOnlyRead facts before after
    × Keeps reader-old reader-new × Keeps writer-old writer-new)
    ⊎ ((first : State D) × (last : State D) × IsOpenedFrom facts before first
    × (after ≡ last.disk)
    × TypesOver facts first last how reader-old reader-new writer-old writer-new)
