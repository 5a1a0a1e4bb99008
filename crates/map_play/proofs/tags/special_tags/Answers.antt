use Rattle.std.proofs.Common.{sym, ◌∙◌, arith}
use Rattle.map_checks.proofs.ItemReads.{is_there}
use Rattle.map_play.specs.Specials.{special_tag}
use Rattle.map_play.proofs.TagSteps.{marks_more}
use Rattle.map_play.proofs.tags.special_tags.Goals as goal

pub unwrap-line-requires : goal.unwrap-line-requires
unwrap-line-requires c = is_there c.args.map.now.tables.lines c.loop-n.n _ c.line.ensures.item (omega arith)

pub loop-n-preserved : goal.loop-n-preserved
loop-n-preserved c =
    marks_more (special_tag c.args.runs.now) c.args.map.now.tables.lines c.loop-n.n c.unwrap-line.result
    (sym c.line.ensures.item ∙ c.unwrap-line.ensures)
    c.loop-n.tags.items c.loop-n.invariant c.from.result (c.from.ensures ∙ c.special_tag.ensures) (omega (arith, c.from.ensures))
