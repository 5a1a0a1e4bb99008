-- The blocks of a script: which lines stand in them, and whether they are in order.
use Rattle.std.specs.Prelude.{ℕ, zero, suc, Bool, ◌+◌, ◌-◌, ◌==◌, ◌&&◌, ◌||◌, not, if◌then◌else◌, List, [], ◌∷◌, take, drop, Option, Some, None}
use Rattle.std.specs.List.{enumerate_from}
use Rattle.std.specs.Option.{is_some}
use Rattle.map_script.specs.Defines.{define_words}
use Rattle.map_script.specs.Loops.{closes, opens}
use Rattle.map_script.specs.Words.{text_words}

-- the lines, each behind its place among them, from 0
abbrev pub with_places : List (ℕ × List ℕ) → List (ℕ × (ℕ × List ℕ))
with_places lines = enumerate_from 0 lines

-- the lines from one place up to another
abbrev pub lines_between : List (ℕ × (ℕ × List ℕ)) → ℕ → ℕ → List (ℕ × (ℕ × List ℕ))
lines_between lines from until = drop from (take until lines)

-- how many blocks are open behind a line, if so many were before it
abbrev pub depth_after : ℕ → List ℕ → ℕ
depth_after depth line =
    if opens line then depth + 1 else (if closes line then depth - 1 else depth)

-- ---- The lines of a block

-- how many lines stand before the `end` of a block, if within it so many blocks are open: all lines
-- if none is its `end`
abbrev pub block_len : ℕ → List (ℕ × (ℕ × List ℕ)) → ℕ
block_len depth [] = 0
block_len depth (l ∷ ls) =
    if closes l.1.1 && (depth == 0) then 0 else suc (block_len (depth_after depth l.1.1) ls)

-- the lines of a block, which begins these lines
abbrev pub block_lines : List (ℕ × (ℕ × List ℕ)) → List (ℕ × (ℕ × List ℕ))
block_lines lines = take (block_len 0 lines) lines

-- the lines behind its `end`
abbrev pub behind_block : List (ℕ × (ℕ × List ℕ)) → List (ℕ × (ℕ × List ℕ))
behind_block lines = drop (block_len 0 lines + 1) lines

-- ---- Their order

-- a line defines a shape
abbrev pub defines : List ℕ → Bool
defines line = is_some (define_words (text_words line))

-- a line closes a block where none is open, opens one within 64 others, or defines a shape within one
abbrev pub is_misplaced : ℕ → List ℕ → Bool
is_misplaced depth line =
    (closes line && (depth == 0))
    || ((opens line && (depth == 64)) || (defines line && not (depth == 0)))

-- the place of the first misplaced line, if so many blocks are open, the outermost of which begins
-- at a place; or else the place of the outermost block that has no `end`
abbrev pub fault_within : ℕ → ℕ → List (ℕ × (ℕ × List ℕ)) → Option ℕ
fault_within outer depth [] = if depth == 0 then None else Some outer
fault_within outer depth (l ∷ ls) =
    if is_misplaced depth l.1.1 then Some l.0
    else fault_within (if depth == 0 then l.0 else outer) (depth_after depth l.1.1) ls

-- the place of the line at which the blocks of a script are out of order, if they are
abbrev pub order_fault : List (ℕ × List ℕ) → Option ℕ
order_fault lines = fault_within 0 0 (with_places lines)
