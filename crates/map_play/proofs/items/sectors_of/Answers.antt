use Rattle.std.proofs.Common.{◌++◌, ◌∷◌, [], sym, ap, ◌∙◌, arith}
use Rattle.std.proofs.lemmas.List.{take_all}
use Rattle.map_checks.proofs.ItemReads.{is_there}
use Rattle.map_play.proofs.ItemSteps.{items_more}
use Rattle.map_play.proofs.items.sectors_of.Goals as goal

pub unwrap-sector-requires : goal.unwrap-sector-requires
unwrap-sector-requires c = is_there c.args.map.now.tables.sectors c.loop-n.n _ c.sector.ensures.item (omega arith)

pub loop-n-preserved : goal.loop-n-preserved
loop-n-preserved c =
    let sectors = c.args.map.now.tables.sectors in
    c.in_ok-push.ensures.items ∙ ap (λ l. l ++ c.unwrap-sector.result ∷ []) c.loop-n.invariant
    ∙ items_more sectors c.loop-n.n c.unwrap-sector.result (sym c.sector.ensures.item ∙ c.unwrap-sector.ensures)

pub returns : goal.returns
returns c = c.loop-n.invariant ∙ take_all c.loop-n.n c.args.map.now.tables.sectors (omega (arith, c.loop-n-test.false))
