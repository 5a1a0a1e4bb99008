use Rattle.std.proofs.Common.{ℕ, not, true, false, get_or, [], ◌∷◌, ◌++◌, sym, ap, ◌∙◌}
use Rattle.std.proofs.lemmas.List.{append-nil}
use Rattle.map_checks.specs.Tallies.{unused_item}
use Rattle.map_checks.proofs.MarkSteps.{marked_more}
use Rattle.map_checks.proofs.unused.list_unmarked.Goals as goal
use Rattle.map_checks.proofs.unused.list_unmarked.Goals.{then-not-is_used+in_ok-push, else-not-is_used}

pub loop-n-preserved : goal.loop-n-preserved
loop-n-preserved c =
    let n = c.loop-n.n in
    let passes = λ (k : ℕ). not (get_or c.args.used.now k false) in
    let more = marked_more (unused_item c.args.kind) passes n c.args.found.now.items c.loop-n.found.items c.loop-n.invariant in
    elim c.if-not-is_used.branch [
      | then-not-is_used+in_ok-push w ↦
          rw w.found-is
          (w.in_ok-push.ensures.items ∙ ap (λ x. c.loop-n.found.items ++ x ∷ []) w.unused_item.ensures
          ∙ more true (ap not w.if-not-is_used.true))
      | else-not-is_used w ↦
          rw w.found-is (sym (append-nil c.loop-n.found.items) ∙ more false (ap not w.if-not-is_used.false))
    ]
