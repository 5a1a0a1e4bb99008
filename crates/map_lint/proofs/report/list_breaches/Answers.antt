use Rattle.std.proofs.Common.{None, List, ◌∷◌, [], ◌++◌, ap, true, false, sym, ◌∙◌}
use Rattle.std.proofs.lemmas.List.{append-nil}
use Rattle.map_checks.proofs.MarkSteps.{marked_more}
use Rattle.map_lint.specs.declared.warning.Warning.{Warning}
use Rattle.map_lint.specs.declared.whereabouts.Whereabouts.{Whereabouts}
use Rattle.map_lint.specs.Rules.{breaks, warning_of}
use Rattle.map_lint.proofs.report.list_breaches.Goals as goal
use Rattle.map_lint.proofs.report.list_breaches.Goals.{then-breaks+in_ok-push, else-breaks}

pub loop-n-preserved : goal.loop-n-preserved
loop-n-preserved c =
    let m = c.args.map.now.tables in
    let rule = c.args.rule in
    let n = c.loop-n.n in
    let more = marked_more (warning_of m rule) (breaks m rule) n c.args.found.now.items c.loop-n.found.items c.loop-n.invariant in
    let warned : Whereabouts → List Warning = λ w. c.loop-n.found.items ++ (record { rule = rule; number = n; whereabouts = w; shown = None }) ∷ [] in
    elim c.if-breaks.branch [
      | then-breaks+in_ok-push w ↦
          rw w.found-is (w.in_ok-push.ensures.items ∙ ap warned w.whereabouts_of-whereabouts.ensures ∙ more true (sym c.breaks.ensures ∙ w.if-breaks.true))
      | else-breaks w ↦
          rw w.found-is (sym (append-nil c.loop-n.found.items) ∙ more false (sym c.breaks.ensures ∙ w.if-breaks.false))
    ]
