use Rattle.std.proofs.Common.{◌≡◌, ◌++◌, map, filter, take}
use Rattle.map_checks.specs.declared.finding.Finding.TheVariants.{TextureMissing}
use Rattle.map_checks.specs.Textures.{misses}
use Rattle.map_checks.proofs.textures.list_side.Given as goal

abbrev pub invariant-loop-texture : goal.invariant-loop-texture
invariant-loop-texture l =
    l.found.items
    ≡ l.initial.found.items
    ++ map (λ t. TextureMissing l.n l.left t) (filter (misses l.map.tables l.line l.left) (take l.texture-index l.texture-items))
