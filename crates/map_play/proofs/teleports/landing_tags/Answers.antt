use Rattle.std.proofs.Common.{sym, ◌∙◌, arith}
use Rattle.map_checks.proofs.ItemReads.{is_there}
use Rattle.map_play.specs.Teleports.{landing_tag}
use Rattle.map_play.proofs.TagSteps.{marks_more}
use Rattle.map_play.proofs.teleports.landing_tags.Goals as goal

pub unwrap-thing-requires : goal.unwrap-thing-requires
unwrap-thing-requires c = is_there c.args.map.now.tables.things c.loop-n.n _ c.thing.ensures.item (omega arith)

pub loop-n-preserved : goal.loop-n-preserved
loop-n-preserved c =
    let m = c.args.map.now.tables in
    marks_more (landing_tag m) m.things c.loop-n.n c.unwrap-thing.result (sym c.thing.ensures.item ∙ c.unwrap-thing.ensures)
    c.loop-n.tags.items c.loop-n.invariant c.from.result (c.from.ensures ∙ c.landing_tag.ensures) (omega (arith, c.from.ensures))
