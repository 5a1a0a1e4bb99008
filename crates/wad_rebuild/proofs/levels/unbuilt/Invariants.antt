-- The levels so far, each under its name.
use Rattle.std.specs.Prelude.{◌≡◌, All, map, take}
use Rattle.wad_levels.specs.Entries.{level_name}
use Rattle.wad_rebuild.proofs.levels.unbuilt.Given as goal

abbrev pub invariant-loop-level : goal.invariant-loop-level
invariant-loop-level l = (map (λ k. k.entries) l.unbuilt.items ≡ take l.level-index l.levels)
    × All (λ k. k.name ≡ level_name l.wad k.entries) l.unbuilt.items
