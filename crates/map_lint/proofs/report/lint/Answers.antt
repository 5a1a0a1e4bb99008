use Rattle.std.proofs.Common.{◌∙◌, ap, flat_map, arith}
use Rattle.std.proofs.lemmas.List.{take_all}
use Rattle.map_lint.specs.Rules.{breaches, rules_in_order}
use Rattle.map_lint.proofs.RuleSteps.{parts_more}
use Rattle.map_lint.proofs.report.lint.Goals as goal

pub loop-rule-preserved : goal.loop-rule-preserved
loop-rule-preserved c =
    c.in_ok-list_breaches.ensures
    ∙ parts_more (breaches c.args.map.now.tables) rules_in_order c.loop-rule.rule-index _ (omega (arith, c.loop-rule-test.true))
    c.loop-rule.found.items c.loop-rule.invariant

pub returns-clause-found : goal.returns-clause-found
returns-clause-found c =
    c.loop-rule.invariant
    ∙ ap (flat_map (breaches c.args.map.now.tables)) (take_all c.loop-rule.rule-index rules_in_order c.loop-rule-test.false)
