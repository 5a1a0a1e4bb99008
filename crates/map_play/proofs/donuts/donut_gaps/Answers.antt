use Rattle.std.proofs.Common.{append-nil, Some, sym, ◌∙◌}
use Rattle.std.specs.Prelude.{None}
use Rattle.map_play.specs.Donuts.{donut_gap}
use Rattle.map_play.proofs.ItemSteps.{given_more}
use Rattle.map_play.proofs.donuts.donut_gaps.Goals as goal
use Rattle.map_play.proofs.donuts.donut_gaps.Goals.{in-Some+in_ok-push-in-Some, in-None}

pub loop-n-preserved : goal.loop-n-preserved
loop-n-preserved c =
    let more = given_more (donut_gap c.args.map.now.tables) c.loop-n.n c.loop-n.gaps.items c.loop-n.invariant in
    elim c.match-donut_gap.branch [
      | in-Some+in_ok-push-in-Some w ↦
          rw w.gaps-is (w.in_ok-push-in-Some.ensures.items ∙ more (Some w.in-Some.line) (sym c.donut_gap.ensures ∙ w.in-Some.is))
      | in-None w ↦ rw w.gaps-is (sym (append-nil c.loop-n.gaps.items) ∙ more None (sym c.donut_gap.ensures ∙ w.in-None.is))
    ]
