use Rattle.std.proofs.Common.{sym, ◌∙◌, arith}
use Rattle.map_checks.specs.Textures.{line_misses}
use Rattle.map_checks.proofs.ItemReads.{is_there}
use Rattle.map_checks.proofs.TextureSteps.{numbered_more}
use Rattle.map_checks.proofs.textures.list_missing_textures.Goals as goal

pub unwrap-line-requires : goal.unwrap-line-requires
unwrap-line-requires c =
    is_there c.args.map.now.tables.lines c.loop-n.n c.line.result c.line.ensures.item
    (omega (arith, c.count-n-end.ensures.number, c.loop-n-test.true))

pub loop-n-preserved : goal.loop-n-preserved
loop-n-preserved c =
    let m = c.args.map.now.tables in
    c.in_ok-list_line.ensures
    ∙ numbered_more (line_misses m) m.lines c.loop-n.n c.unwrap-line.result (sym c.line.ensures.item ∙ c.unwrap-line.ensures)
    c.args.found.now.items c.loop-n.found.items c.loop-n.invariant
