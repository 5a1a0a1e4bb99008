use Rattle.std.specs.Prelude.{flat_map}
use Rattle.std.specs.List.{range_with_len}
use Rattle.std.specs.Io.KnownBytes.{Appends}
use Rattle.map_picture.specs.Legend.{row_text}
use Rattle.map_picture.proofs.legend.write_rows.Given as goal

-- the elements so far have been written
abbrev pub invariant-loop-row : goal.invariant-loop-row
invariant-loop-row g l =
    Appends (g.W.Write.contents l.fn.writer) (g.W.Write.contents l.writer) (flat_map (row_text l.heights) (range_with_len 0 l.row))
