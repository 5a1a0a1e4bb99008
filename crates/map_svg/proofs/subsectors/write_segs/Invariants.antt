use Rattle.std.specs.Prelude.{flat_map}
use Rattle.std.specs.List.{range_with_len}
use Rattle.std.specs.Io.KnownBytes.{Appends}
use Rattle.map_svg.specs.Subsectors.{seg_text}
use Rattle.map_svg.specs.Texts.{of_item}
use Rattle.map_svg.proofs.subsectors.write_segs.Given as goal

-- the elements so far have been written
abbrev pub invariant-loop-k : goal.invariant-loop-k
invariant-loop-k g l =
    Appends (g.W.Write.contents l.fn.writer) (g.W.Write.contents l.writer) (flat_map (of_item (seg_text l.overlay l.step) l.overlay.segs.items) (range_with_len l.sub.first l.k))
