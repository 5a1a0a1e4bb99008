use Rattle.std.proofs.Common.{◌++◌, ◌∷◌, [], sym, ap, ◌∙◌, arith}
use Rattle.std.proofs.lemmas.List.{take_all}
use Rattle.map_checks.proofs.ItemReads.{is_there}
use Rattle.map_play.proofs.ItemSteps.{items_more}
use Rattle.map_play.proofs.items.things_of.Goals as goal

pub unwrap-thing-requires : goal.unwrap-thing-requires
unwrap-thing-requires c = is_there c.args.map.now.tables.things c.loop-n.n _ c.thing.ensures.item (omega arith)

pub loop-n-preserved : goal.loop-n-preserved
loop-n-preserved c =
    let things = c.args.map.now.tables.things in
    c.in_ok-push.ensures.items ∙ ap (λ l. l ++ c.unwrap-thing.result ∷ []) c.loop-n.invariant
    ∙ items_more things c.loop-n.n c.unwrap-thing.result (sym c.thing.ensures.item ∙ c.unwrap-thing.ensures)

pub returns : goal.returns
returns c = c.loop-n.invariant ∙ take_all c.loop-n.n c.args.map.now.tables.things (omega (arith, c.loop-n-test.false))
