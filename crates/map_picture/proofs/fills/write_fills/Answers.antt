use Rattle.std.proofs.Common.{◌∙◌, ◌<◌, List, ℕ, [], ap, arith, length, sym, subst}
use Rattle.std.specs.Prelude.{flat_map}
use Rattle.std.specs.List.{range_with_len}
use Rattle.std.specs.Io.KnownBytes.{Appends}
use Rattle.std.proofs.KnownBytes.{Appends-nil, Appends-trans}
use Rattle.std.proofs.lemmas.List.{get_or_read}
use Rattle.map_svg.proofs.Growing.{numbered_more}
use Rattle.map_picture.specs.Fills.{nth_border, nth_fill}
use Rattle.map_picture.proofs.fills.write_fills.Goals as goal

pub write_nth-requires-clause-lines : goal.write_nth-requires-clause-lines
write_nth-requires-clause-lines g c =
    let m = c.args.map.now.tables in
    let lists = c.args.borders.now in
    let n = c.loop-n.n in
    let within : n < length lists = omega (arith, c.requires.borders.count) in
    let read = get_or_read lists n _ within c.index-borders-n.is [] in
    ap (flat_map (nth_border m n)) (c.lines-lines.ensures ∙ read) ∙ c.requires.borders.edges n within

pub loop-n-init : goal.loop-n-init
loop-n-init g c = Appends-nil (g.W.Write.contents c.args.writer.now)

pub loop-n-preserved : goal.loop-n-preserved
loop-n-preserved g c =
    let f = nth_fill c.args.map.now.tables c.args.heights in
    let n = c.loop-n.n in
    let u = g.W.Write.contents c.args.writer.now in
    let w = g.W.Write.contents c.write_nth.new.writer in
    subst (λ (t : List ℕ). Appends u w t) (sym (numbered_more f n))
    (Appends-trans u (g.W.Write.contents c.loop-n.writer) w (flat_map f (range_with_len 0 n)) (f n) c.loop-n.invariant c.in-Ok.ensures)
