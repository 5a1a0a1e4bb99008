use Rattle.std.proofs.Common.{sym, ◌∙◌, arith}
use Rattle.map_checks.proofs.ItemReads.{is_there}
use Rattle.map_play.specs.Tags.{tag_of}
use Rattle.map_play.proofs.TagSteps.{marks_more}
use Rattle.map_play.proofs.tags.tags_of_sectors.Goals as goal

pub unwrap-sector-requires : goal.unwrap-sector-requires
unwrap-sector-requires c = is_there c.args.map.now.tables.sectors c.loop-n.n _ c.sector.ensures.item (omega arith)

pub loop-n-preserved : goal.loop-n-preserved
loop-n-preserved c =
    marks_more tag_of c.args.map.now.tables.sectors c.loop-n.n c.unwrap-sector.result (sym c.sector.ensures.item ∙ c.unwrap-sector.ensures)
    c.loop-n.tags.items c.loop-n.invariant c.from.result (c.from.ensures ∙ c.tag_of.ensures) (omega (arith, c.from.ensures))
