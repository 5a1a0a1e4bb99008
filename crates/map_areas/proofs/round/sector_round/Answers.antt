use Rattle.std.proofs.Common.{◌∙◌, ◌<◌, List, get_or, length, subst, ap}
use Rattle.map_areas.specs.Cuts.{IsLed}
use Rattle.map_areas.specs.declared.border.CutEdge.{CutEdge}
use Rattle.map_areas.proofs.Bordering.{each_all, each_more}
use Rattle.map_areas.proofs.Rests.{differs_refused, part_there}
use Rattle.map_areas.proofs.round.sector_round.Goals as goal

pub loop-cut-preserved : goal.loop-cut-preserved
loop-cut-preserved c =
    each_more (IsLed c.args.map.now.tables c.first_part-first.result.sector) c.deref-cut-items.result.now c.args.border.now.cut_edges.items c.loop-cut.cut-index c.cut-item.result
    c.deref-cut-items.ensures.value c.loop-cut-test.true c.loop-cut.invariant c.cut-item.is c.in-Ok.ensures.led

pub returns-clause-led : goal.returns-clause-led
returns-clause-led c =
    each_all (IsLed c.args.map.now.tables c.first_part-first.result.sector) c.deref-cut-items.result.now c.args.border.now.cut_edges.items c.loop-cut.cut-index c.deref-cut-items.ensures.value
    c.loop-cut-test.false c.loop-cut.invariant

pub returns-in-Err-clause-reason : goal.returns-in-Err-clause-reason
returns-in-Err-clause-reason c =
    let m = c.args.map.now.tables in
    let cs = c.args.border.now.cut_edges.items in
    let es = c.args.border.now.edges.items in
    let vs = c.deref-cut-items.result.now in
    let cut = c.cut-item.result in
    differs_refused m es c.args.border.now.doubled.items c.first_part-first.result cut.edge c.in-Err.error
    (part_there m cs es c.requires.edges 0 c.index.result.now c.requires.some c.index.ensures c.first_part-first.result c.first_part-first.ensures)
    (λ p h.
    part_there m cs es c.requires.edges c.loop-cut.cut-index cut
    (subst (λ (ws : List CutEdge). c.loop-cut.cut-index < length ws) c.deref-cut-items.ensures.value c.loop-cut-test.true)
    (c.cut-item.is ∙ ap (λ (ws : List CutEdge). get_or ws c.loop-cut.cut-index cut) c.deref-cut-items.ensures.value) p h)
    c.in-Err.ensures.reason
