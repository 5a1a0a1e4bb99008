use Rattle.std.specs.Prelude.{flat_map, take}
use Rattle.std.specs.Io.KnownBytes.{Appends}
use Rattle.map_picture.specs.Numbering.{placed_number}
use Rattle.map_picture.proofs.numbers.write_all.Given as goal

-- the numbers so far have been written
abbrev pub invariant-loop-number : goal.invariant-loop-number
invariant-loop-number g l =
    Appends (g.W.Write.contents l.fn.writer) (g.W.Write.contents l.writer) (flat_map placed_number (take l.number-index l.placed))
