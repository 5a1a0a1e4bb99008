-- The place that is at hand.
use Rattle.std.proofs.Common.{ℕ, ◌+◌, ◌<◌, List, length, refl, sym, subst}
use Rattle.map_blocks.specs.Blocks.{lines_between, with_places}
use Rattle.map_blocks.proofs.PlacedLines.{line_at, next_line}
use Rattle.run_script.specs.Drawn.{IsAtPlace}
use Rattle.run_script.specs.Turns.{Turn}

-- it is the place that is at hand
pub at_next_line : (lines : List (ℕ × List ℕ)) (i until : ℕ) (turns : List Turn) → i < length lines → i < until
    → IsAtPlace (lines_between (with_places lines) i until) turns i
at_next_line lines i until turns below inside =
    let (x, is) = line_at lines i below in
    subst (λ (left : List (ℕ × (ℕ × List ℕ))). IsAtPlace left turns i) (sym (next_line lines i until x is inside)) refl
