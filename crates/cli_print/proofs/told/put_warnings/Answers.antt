use Rattle.std.proofs.Common.{append-nil, arith, refl, sym}
use Rattle.lump_records.specs.Names.{name_text}
use Rattle.map_lint.specs.Texts.{warning_text}
use Rattle.cli_print.specs.Origins.{items_of_warning}
use Rattle.cli_print.proofs.Origins.{line_put}
use Rattle.cli_print.proofs.told.put_warnings.Goals as goal

pub loop-warning-init : goal.loop-warning-init
loop-warning-init g c = sym (append-nil c.args.text.now.items)

pub loop-warning-preserved : goal.loop-warning-preserved
loop-warning-preserved g c =
    line_put (g.O.Origin.origin c.args.origin.now) (name_text c.args.map.now) c.args.front.now warning_text items_of_warning c.args.text.now.items c.args.warned.now
    c.loop-warning.warning-index _ _ c.loop-warning.text.items _ (omega (arith, c.loop-warning-test.true)) c.about_warning-about.ensures c.loop-warning.invariant
    (c.in-Ok.ensures.put _ refl)
