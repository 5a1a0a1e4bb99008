use Rattle.std.proofs.Common.{◌∙◌}
use Rattle.wad_levels.specs.Views.{view}
use Rattle.run_edit.proofs.Inspecting.{lengths_written}
use Rattle.run_edit.proofs.inspection.write_lengths.Goals as goal

pub returns : goal.returns
returns g c =
    let l = c.args.level.now in
    lengths_written (view l) (g.W.Write.contents c.args.writer.now) (g.W.Write.contents c.write_front.new.writer)
    (g.W.Write.contents c.write_back.new.writer) _ _ _ _ _ _ _ _ _ _ (c.len-things.ensures ∙ l.things.ok.0) (c.len-lines.ensures ∙ l.lines.ok.0)
    (c.len-sides.ensures ∙ l.sides.ok.0) (c.len-vertices.ensures ∙ l.vertices.ok.0) (c.len-segs.ensures ∙ l.segs.ok.0)
    (c.len-subs.ensures ∙ l.subs.ok.0) (c.len-nodes.ensures ∙ l.nodes.ok.0) (c.len-sectors.ensures ∙ l.sectors.ok.0)
    (c.len-reject.ensures ∙ l.reject.ok.0) (c.len-blockmap.ensures ∙ l.blockmap.ok.0)
    c.in_ok-write_front.ensures c.in_ok-write_back.ensures
