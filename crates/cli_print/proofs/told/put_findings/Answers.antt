use Rattle.std.proofs.Common.{append-nil, arith, refl, sym}
use Rattle.lump_records.specs.Names.{name_text}
use Rattle.map_checks.specs.Texts.{finding_text}
use Rattle.cli_print.specs.Origins.{items_of_finding}
use Rattle.cli_print.proofs.Origins.{line_put}
use Rattle.cli_print.proofs.told.put_findings.Goals as goal

pub loop-finding-init : goal.loop-finding-init
loop-finding-init g c = sym (append-nil c.args.text.now.items)

pub loop-finding-preserved : goal.loop-finding-preserved
loop-finding-preserved g c =
    line_put (g.O.Origin.origin c.args.origin.now) (name_text c.args.map.now) c.args.front.now finding_text items_of_finding c.args.text.now.items c.args.found.now
    c.loop-finding.finding-index _ _ c.loop-finding.text.items _ (omega (arith, c.loop-finding-test.true)) c.about_finding-about.ensures c.loop-finding.invariant
    (c.in-Ok.ensures.put _ refl)
