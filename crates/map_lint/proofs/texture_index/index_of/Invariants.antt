use Rattle.std.specs.Prelude.{◌≡◌, ℕ, List, bytes_eq, find, take}
use Rattle.indexmap.specs.IndexMap.{get}
use Rattle.map_lint.proofs.texture_index.index_of.Given as goal

-- each name means the first texture so far that has it
abbrev pub invariant-loop-texture : goal.invariant-loop-texture
invariant-loop-texture l =
    (bytes : List ℕ) → get bytes_eq l.by_name bytes ≡ find (λ t. bytes_eq t.name.bytes bytes) (take l.texture-index l.textures)
