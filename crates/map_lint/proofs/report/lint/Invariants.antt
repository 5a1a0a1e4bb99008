use Rattle.std.proofs.Common.{◌≡◌, flat_map, take}
use Rattle.map_lint.specs.Rules.{breaches}
use Rattle.map_lint.proofs.report.lint.Given as goal

abbrev pub invariant-loop-rule : goal.invariant-loop-rule
invariant-loop-rule l = l.found.items ≡ flat_map (breaches l.map.tables) (take l.rule-index l.rule-items)
