use Rattle.std.specs.Prelude.{flat_map, reverse, take}
use Rattle.std.specs.Io.KnownBytes.{Appends}
use Rattle.run_reasons.specs.Refused.{block_among}
use Rattle.run_reasons.proofs.open_blocks.write_blocks.Given as goal

-- the lines about the innermost blocks have been written, so many
abbrev pub invariant-loop-i : goal.invariant-loop-i
invariant-loop-i g l =
    Appends (g.W.Write.contents l.fn.writer) (g.W.Write.contents l.writer) (flat_map (block_among l.lines l.files) (take l.i (reverse l.blocks)))
