use Rattle.std.proofs.Common.{List, ℕ, sym, subst}
use Rattle.std.specs.Prelude.{flat_map}
use Rattle.std.specs.List.{range_with_len}
use Rattle.std.specs.Io.KnownBytes.{Appends}
use Rattle.std.proofs.KnownBytes.{Appends-nil, Appends-trans}
use Rattle.map_svg.proofs.Growing.{numbered_more}
use Rattle.map_picture.specs.Legend.{row_text}
use Rattle.map_picture.proofs.legend.write_rows.Goals as goal

pub loop-row-init : goal.loop-row-init
loop-row-init g c = Appends-nil (g.W.Write.contents c.args.writer.now)

pub loop-row-preserved : goal.loop-row-preserved
loop-row-preserved g c =
    let f = row_text c.args.heights in
    let n = c.loop-row.row in
    let u = g.W.Write.contents c.args.writer.now in
    let w = g.W.Write.contents c.write_row.new.writer in
    subst (λ (t : List ℕ). Appends u w t) (sym (numbered_more f n))
    (Appends-trans u (g.W.Write.contents c.loop-row.writer) w (flat_map f (range_with_len 0 n)) (f n) c.loop-row.invariant c.in-Ok.ensures)
