use Rattle.std.proofs.Common.{◌≡◌, None, take}
use Rattle.std.specs.Prelude.{find}
use Rattle.map_lint.specs.Graphics.{wall_breaks}
use Rattle.map_lint.proofs.graphics.wrong_wall.Given as goal

-- none of the walls so far breaks the rule
abbrev pub invariant-loop-wall : goal.invariant-loop-wall
invariant-loop-wall l =
    find (wall_breaks l.textures.textures.now l.map.tables l.rule l.line) (take l.wall-index l.wall-items) ≡ None
