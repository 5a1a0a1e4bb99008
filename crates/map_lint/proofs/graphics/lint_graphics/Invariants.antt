use Rattle.std.proofs.Common.{◌≡◌, flat_map, take}
use Rattle.map_lint.specs.Graphics.{graphic_breaches}
use Rattle.map_lint.proofs.graphics.lint_graphics.Given as goal

abbrev pub invariant-loop-rule : goal.invariant-loop-rule
invariant-loop-rule l =
    l.found.items ≡ flat_map (graphic_breaches l.flats.names.now l.textures.textures.now l.map.tables) (take l.rule-index l.rule-items)
