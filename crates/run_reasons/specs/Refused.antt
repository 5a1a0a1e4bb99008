-- The lines that are written about a refused line of a script, and about the blocks that it stands in
-- (docs/COMMANDS.md, "Scripts").
use Rattle.std.specs.Prelude.{◌≡◌, ◌⊎◌, ◌<◌, ℕ, ℤ, All, if◌then◌else◌, List, ◌++◌, ◌∷◌, [], Option, Some, None, Result, MatchResult, codes, decimal, drop, flat_map, get_or, reverse}
use Rattle.std.specs.Fmt.{signed_decimal}
use Rattle.std.specs.Io.KnownBytes.{Appends, Keeps}
use Rattle.std.specs.Option.{is_some}
use Rattle.lump_text.specs.Shown.{shown_text}
use Rattle.map_script.specs.Ats.{at_words}
use Rattle.map_script.specs.Lines.{command_words}
use Rattle.map_script.specs.Loops.{loop_name}
use Rattle.map_script.specs.Words.{first_word, text_words}
use Rattle.run_reasons.specs.Names.{stop_name}
use Rattle.map_blocks.specs.declared.stop.OpenBlock.{OpenBlock}
use Rattle.map_blocks.specs.declared.stop.Stop.{Stop}
use Rattle.run_canvas.specs.declared.error.ScriptError.{ScriptError}
use Rattle.run_canvas.specs.declared.error.ScriptError.TheVariants.{OutOfMemory, WriterFailed}

-- ---- Its line

-- `FILE:NUMBER: `
abbrev pub line_place : List ℕ → ℕ → List ℕ
line_place file number = file ++ codes ":" ++ decimal number ++ codes ": "

-- `: CODE NAME`, and the reason in a line of its own
abbrev pub refusal_text : ℕ → List ℕ → List ℕ → List ℕ
refusal_text code name reason =
    codes ": " ++ decimal code ++ codes " " ++ name ++ 10 ∷ codes "  " ++ reason ++ 10 ∷ []

-- `FILE:NUMBER: TEXT: CODE NAME` about a line, TEXT as it is shown, and the reason in a line of its own
abbrev pub line_refusal : List ℕ → ℕ × List ℕ → ℕ → List ℕ → List ℕ
line_refusal file line code reason =
    line_place file line.0 ++ (shown_text line.1 ++ refusal_text code (stop_name code) reason)

-- ---- The blocks

-- `, FILE:NUMBER` at the end of a line
abbrev pub block_end : List ℕ → ℕ → List ℕ
block_end file number = codes ", " ++ file ++ codes ":" ++ decimal number ++ 10 ∷ []

-- ` = TURN, FILE:NUMBER` at the end of a line
abbrev pub turn_end : ℤ → List ℕ → ℕ → List ℕ
turn_end turn file number =
    codes " = " ++ signed_decimal turn ++ codes ", " ++ file ++ codes ":" ++ decimal number
    ++ 10 ∷ []

-- `  NAME = TURN, FILE:NUMBER` about a turn of a loop with this line
abbrev pub turn_text : List ℕ → ℕ × List ℕ → ℤ → List ℕ
turn_text file line turn =
    codes "  " ++ (loop_name (drop 1 (text_words line.1)) ++ turn_end turn file line.0)

-- `  in NAME, FILE:NUMBER` about a shape that is drawn by this line
abbrev pub in_shape_text : List ℕ → ℕ × List ℕ → List ℕ
in_shape_text file line =
    codes "  in " ++ (first_word (command_words (text_words line.1)) ++ block_end file line.0)

-- the line about a block that this line opened, in this turn if it is a loop's; none about an `at`
abbrev pub block_text : List ℕ → ℕ × List ℕ → Option ℤ → List ℕ
block_text file line (Some turn) = turn_text file line turn
block_text file line None =
    if is_some (at_words (text_words line.1)) then [] else in_shape_text file line

-- the same about a block among lines that stand in these files
abbrev pub block_among : List (ℕ × List ℕ) → List (List ℕ) → OpenBlock → List ℕ
block_among lines files b =
    block_text (get_or files b.place []) (get_or lines b.place (0, [])) b.number

-- the lines about the open blocks, the innermost first
abbrev pub blocks_text : List (ℕ × List ℕ) → List (List ℕ) → List OpenBlock → List ℕ
blocks_text lines files blocks = flat_map (block_among lines files) (reverse blocks)

-- ---- All of them

-- how a call ended that should write this about a line of a script, with the name of the refusal and
-- some reason, and behind it these lines about blocks; without memory for the reason nothing is
-- written
abbrev pub TellsStop : {U : Type 0} → Result U ScriptError → List ℕ → ℕ × List ℕ → ℕ → List ℕ
    → Option (List ℕ) → Option (List ℕ) → Type 0
TellsStop result file line code blocks writer-old writer-new =
    MatchResult result (λ _. (reason : List ℕ)
    × Appends writer-old writer-new (line_refusal file line code reason ++ blocks))
    (λ e. ((e ≡ OutOfMemory) × Keeps writer-old writer-new) ⊎ (e ≡ WriterFailed))
