use Rattle.std.proofs.Common.{◌≡◌, ◌+◌, ◌≤◌}
use Rattle.map_blocks.specs.Blocks.{lines_between, block_len, with_places}
use Rattle.map_blocks.proofs.blocks.block_len.Given as goal

-- the lines so far stand in the block
abbrev pub invariant-loop-i : goal.invariant-loop-i
invariant-loop-i l =
    (l.from + block_len 0 (lines_between (with_places l.lines) l.from l.until)
    ≡ l.i + block_len l.depth (lines_between (with_places l.lines) l.i l.until)) × (l.depth ≤ l.i)
