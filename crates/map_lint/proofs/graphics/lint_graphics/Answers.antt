use Rattle.std.proofs.Common.{◌≡◌, ◌∙◌, ap, flat_map, arith}
use Rattle.std.proofs.lemmas.List.{take_all}
use Rattle.map_lint.specs.Graphics.{graphic_breaches, graphic_rules, graphic_warnings}
use Rattle.map_lint.proofs.RuleSteps.{parts_more}
use Rattle.map_lint.proofs.graphics.lint_graphics.Goals as goal

pub loop-rule-preserved : goal.loop-rule-preserved
loop-rule-preserved c =
    c.in_ok-list_graphics.ensures
    ∙ parts_more (graphic_breaches c.in_ok-flats.flats.names.now c.in_ok-textures.textures.textures.now c.args.map.now.tables) graphic_rules
    c.loop-rule.rule-index _ (omega (arith, c.loop-rule-test.true)) c.loop-rule.found.items c.loop-rule.invariant

pub returns-clause-found : goal.returns-clause-found
returns-clause-found c =
    let flats = c.in_ok-flats.flats.names.now in
    let textures = c.in_ok-textures.textures.textures.now in
    let m = c.args.map.now.tables in
    let all : c.loop-rule.found.items ≡ graphic_warnings flats textures m =
    c.loop-rule.invariant
    ∙ ap (flat_map (graphic_breaches flats textures m)) (take_all c.loop-rule.rule-index graphic_rules c.loop-rule-test.false) in
    all ∙ (λ i. graphic_warnings (c.in_ok-flats.ensures.names i) (c.in_ok-textures.ensures.textures i) m)
