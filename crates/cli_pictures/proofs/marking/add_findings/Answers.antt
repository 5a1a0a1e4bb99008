use Rattle.std.proofs.Common.{◌∙◌, arith, map, sym, append-nil}
use Rattle.cli_pictures.specs.Marking.{finding_mark, said_at}
use Rattle.cli_pictures.proofs.MarkList.{marked_more}
use Rattle.cli_pictures.proofs.marking.add_findings.Goals as goal

pub loop-finding-init : goal.loop-finding-init
loop-finding-init c = sym (append-nil (map said_at c.args.marks.now.items))

pub loop-finding-preserved : goal.loop-finding-preserved
loop-finding-preserved c =
    c.in-Ok.ensures.added
    ∙ marked_more (finding_mark c.args.drawn.now.tables) (map said_at c.args.marks.now.items) c.args.found.now c.loop-finding.finding-index _ (omega (arith, c.loop-finding-test.true)) _ c.loop-finding.invariant
