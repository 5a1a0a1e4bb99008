use Rattle.std.proofs.Common.{◌≡◌, ◌∙◌, length, subst, sym, arith}
use Rattle.std.proofs.lemmas.List.{with_items_is}
use Rattle.map_checks.proofs.ItemReads.{is_there}
use Rattle.map_picture.specs.Borders.{AreBorders}
use Rattle.map_picture.proofs.BorderSteps.{borders_more, no_borders}
use Rattle.map_picture.proofs.borders.sector_borders.Goals as goal

pub unwrap-line-requires : goal.unwrap-line-requires
unwrap-line-requires c = is_there c.args.map.now.tables.lines c.loop-n.n _ c.line.ensures.item (omega arith)

pub loop-n-init : goal.loop-n-init
loop-n-init c = subst (AreBorders c.args.map.now.tables 0) (sym c.in_ok-borders.ensures) (no_borders c.args.map.now.tables _ c.count.ensures.number)

pub loop-n-preserved : goal.loop-n-preserved
loop-n-preserved c =
    let whole : length c.file_line.new.borders ≡ c.loop-n.borders.len = c.file_line.auto.borders ∙ c.deref_mut.ensures.len in
    let files = rw c.deref_mut.ensures.value at c.in-Ok.ensures in
    rw (with_items_is c.loop-n.borders c.file_line.new.borders whole)
    (borders_more c.args.map.now.tables c.loop-n.n c.unwrap-line.result c.loop-n.borders.items c.file_line.new.borders
    (sym c.line.ensures.item ∙ c.unwrap-line.ensures) c.loop-n.invariant files)

pub returns : goal.returns
returns c = subst (λ n. AreBorders c.args.map.now.tables n c.loop-n.borders.items) (omega arith) c.loop-n.invariant
