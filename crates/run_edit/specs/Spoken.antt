-- A line that is answered by itself, with the code that a refused command got (docs/COMMANDS.md, "At
-- a terminal").
use Rattle.std.specs.Prelude.{◌≡◌, ℕ, List, Option, None, Some, IfSome, Result, Ok, Err, MatchResult}
use Rattle.std.specs.Io.KnownBytes.{Appends}
use Rattle.run_edit.specs.Texts.{refused_text}
use Rattle.run_edit.specs.declared.error.EditorError.{EditorError}
use Rattle.run_edit.specs.declared.error.EditorError.TheVariants.{WriterFailed}

-- the code of an outcome, if it is a refusal
abbrev pub refusal_in : Result ℕ ℕ → Option ℕ
refusal_in (Ok n) = None
refusal_in (Err code) = Some code

-- if there is a code, the text tells it
abbrev pub TellsCode : Option ℕ → List ℕ → Type 0
TellsCode refusal text = IfSome refusal (λ code. text ≡ refused_text code)

-- an answer to the line led to the new state; it was written, and a code is that of the answer; or
-- the writer failed
abbrev pub RepliesTo : {S : Type 0} → (S → List ℕ → List ℕ → S → Type 0)
    → Result (Option ℕ) EditorError → S → S → List ℕ → Option (List ℕ) → Option (List ℕ) → Type 0
RepliesTo answers result old new line writer-old writer-new =
    (text : List ℕ) × answers old line text new
    × MatchResult result (λ refusal. Appends writer-old writer-new text × TellsCode refusal text)
    (λ e. e ≡ WriterFailed)
