use Rattle.std.proofs.Common.{◌+◌, List, ℕ, sym, subst}
use Rattle.std.specs.Prelude.{flat_map}
use Rattle.std.specs.List.{range_with_len}
use Rattle.std.specs.Io.KnownBytes.{Appends}
use Rattle.std.proofs.KnownBytes.{Appends-nil, Appends-trans}
use Rattle.map_svg.specs.Subsectors.{seg_text}
use Rattle.map_svg.specs.Texts.{of_item}
use Rattle.map_svg.proofs.Growing.{counted_more}
use Rattle.map_svg.proofs.subsectors.write_segs.Goals as goal

pub loop-k-init : goal.loop-k-init
loop-k-init g c = Appends-nil (g.W.Write.contents c.args.writer.now)

pub loop-k-preserved : goal.loop-k-preserved
loop-k-preserved g c =
    let f = of_item (seg_text c.args.overlay.now c.args.step) c.args.overlay.now.segs.items in
    let n = c.loop-k.k in
    let u = g.W.Write.contents c.args.writer.now in
    let w = g.W.Write.contents c.write_nth_seg.new.writer in
    subst (λ (t : List ℕ). Appends u w t) (sym (counted_more f c.args.sub.now.first n))
    (Appends-trans u (g.W.Write.contents c.loop-k.writer) w (flat_map f (range_with_len c.args.sub.now.first n)) (f (c.args.sub.now.first + n)) c.loop-k.invariant
    (subst (λ (k : ℕ). Appends (g.W.Write.contents c.loop-k.writer) w (f k)) c.seg_number.ensures c.in-Ok.ensures))
