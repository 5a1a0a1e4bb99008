use Rattle.std.specs.Prelude.{flat_map}
use Rattle.std.specs.List.{range_with_len}
use Rattle.std.specs.Io.KnownBytes.{Appends}
use Rattle.map_svg.specs.Subsectors.{sub_element}
use Rattle.map_svg.specs.Texts.{of_item}
use Rattle.map_svg.proofs.subsectors.write_subs.Given as goal

-- the elements so far have been written
abbrev pub invariant-loop-n : goal.invariant-loop-n
invariant-loop-n g l =
    Appends (g.W.Write.contents l.fn.writer) (g.W.Write.contents l.writer) (flat_map (λ n. of_item (sub_element l.overlay l.step n) l.overlay.subs.items n) (range_with_len 0 l.n))
