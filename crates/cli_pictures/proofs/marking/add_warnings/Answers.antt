use Rattle.std.proofs.Common.{◌∙◌, arith, map, sym, append-nil}
use Rattle.cli_pictures.specs.Marking.{warning_mark, said_at}
use Rattle.cli_pictures.proofs.MarkList.{marked_more}
use Rattle.cli_pictures.proofs.marking.add_warnings.Goals as goal

pub loop-warning-init : goal.loop-warning-init
loop-warning-init c = sym (append-nil (map said_at c.args.marks.now.items))

pub loop-warning-preserved : goal.loop-warning-preserved
loop-warning-preserved c =
    c.in-Ok.ensures.added
    ∙ marked_more (warning_mark c.args.drawn.now.tables) (map said_at c.args.marks.now.items) c.args.warned.now c.loop-warning.warning-index _ (omega (arith, c.loop-warning-test.true)) _ c.loop-warning.invariant
