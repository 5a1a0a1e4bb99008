use Rattle.std.proofs.Common.{true, false, sym, ◌∙◌, append-nil}
use Rattle.map_play.specs.Scrolls.{scrolls_at}
use Rattle.map_play.proofs.ItemSteps.{passing_more}
use Rattle.map_play.proofs.scrolls.scrolling.Goals as goal
use Rattle.map_play.proofs.scrolls.scrolling.Goals.{then-scrolls_at+in_ok-push, else-scrolls_at}

pub loop-n-preserved : goal.loop-n-preserved
loop-n-preserved c =
    let more = passing_more (scrolls_at c.args.map.now.tables) c.loop-n.n c.loop-n.numbers.items c.loop-n.invariant in
    elim c.if-scrolls_at.branch [
      | then-scrolls_at+in_ok-push w ↦
          rw w.numbers-is (w.in_ok-push.ensures.items ∙ more true (sym c.scrolls_at.ensures ∙ w.if-scrolls_at.true))
      | else-scrolls_at w ↦
          rw w.numbers-is (sym (append-nil c.loop-n.numbers.items) ∙ more false (sym c.scrolls_at.ensures ∙ w.if-scrolls_at.false))
    ]
