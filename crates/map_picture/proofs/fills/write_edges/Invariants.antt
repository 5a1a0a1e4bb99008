use Rattle.std.specs.Prelude.{flat_map, take}
use Rattle.std.specs.Io.KnownBytes.{Appends}
use Rattle.map_picture.specs.Fills.{nth_border}
use Rattle.map_picture.proofs.fills.write_edges.Given as goal

-- the edges so far have been written
abbrev pub invariant-loop-line : goal.invariant-loop-line
invariant-loop-line g l =
    Appends (g.W.Write.contents l.fn.writer) (g.W.Write.contents l.writer) (flat_map (nth_border l.map.tables l.sector) (take l.line-index l.lines))
