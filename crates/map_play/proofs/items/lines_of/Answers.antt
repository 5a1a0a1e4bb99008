use Rattle.std.proofs.Common.{◌++◌, ◌∷◌, [], sym, ap, ◌∙◌, arith}
use Rattle.std.proofs.lemmas.List.{take_all}
use Rattle.map_checks.proofs.ItemReads.{is_there}
use Rattle.map_play.proofs.ItemSteps.{items_more}
use Rattle.map_play.proofs.items.lines_of.Goals as goal

pub unwrap-line-requires : goal.unwrap-line-requires
unwrap-line-requires c = is_there c.args.map.now.tables.lines c.loop-n.n _ c.line.ensures.item (omega arith)

pub loop-n-preserved : goal.loop-n-preserved
loop-n-preserved c =
    let lines = c.args.map.now.tables.lines in
    c.in_ok-push.ensures.items ∙ ap (λ l. l ++ c.unwrap-line.result ∷ []) c.loop-n.invariant
    ∙ items_more lines c.loop-n.n c.unwrap-line.result (sym c.line.ensures.item ∙ c.unwrap-line.ensures)

pub returns : goal.returns
returns c = c.loop-n.invariant ∙ take_all c.loop-n.n c.args.map.now.tables.lines (omega (arith, c.loop-n-test.false))
