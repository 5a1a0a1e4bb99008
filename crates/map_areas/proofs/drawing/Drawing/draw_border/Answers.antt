use Rattle.std.proofs.Common.{take}
use Rattle.map_areas.specs.Cuts.{IsWalled}
use Rattle.map_areas.proofs.Bordering.{each_all, each_more}
use Rattle.map_areas.proofs.Walled.{edges_kept}
use Rattle.map_areas.proofs.drawing.Drawing.draw_border.Goals as goal

pub loop-cut-preserved : goal.loop-cut-preserved
loop-cut-preserved c =
    let m = c.args.map.now.tables in
    let sector = c.args.paint.now.sector in
    let all = c.args.border.now.cut_edges.items in
    let t = c.loop-cut.self.map.tables in
    let new = c.draw_edge.new.self.map.tables in
    record {
      drawn = c.in-Ok.ensures.drawn;
      walled =
          each_more (IsWalled m new sector) c.deref-cut-items.result.now all c.loop-cut.cut-index c.cut-item.result c.deref-cut-items.ensures.value c.loop-cut-test.true
          (edges_kept m t new sector (take c.loop-cut.cut-index all) c.in-Ok.ensures.kept c.loop-cut.invariant.walled) c.cut-item.is c.in-Ok.ensures.walled;
    }

pub returns-clause-walled : goal.returns-clause-walled
returns-clause-walled c =
    each_all (IsWalled c.args.map.now.tables c.loop-cut.self.map.tables c.args.paint.now.sector) c.deref-cut-items.result.now c.args.border.now.cut_edges.items
    c.loop-cut.cut-index c.deref-cut-items.ensures.value c.loop-cut-test.false c.loop-cut.invariant.walled
