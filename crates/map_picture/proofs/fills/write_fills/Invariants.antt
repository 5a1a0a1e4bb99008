use Rattle.std.specs.Prelude.{flat_map}
use Rattle.std.specs.List.{range_with_len}
use Rattle.std.specs.Io.KnownBytes.{Appends}
use Rattle.map_picture.specs.Fills.{nth_fill}
use Rattle.map_picture.proofs.fills.write_fills.Given as goal

-- the elements so far have been written
abbrev pub invariant-loop-n : goal.invariant-loop-n
invariant-loop-n g l =
    Appends (g.W.Write.contents l.fn.writer) (g.W.Write.contents l.writer) (flat_map (nth_fill l.map.tables l.heights) (range_with_len 0 l.n))
