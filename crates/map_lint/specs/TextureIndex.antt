-- The textures of a WAD by their names.
use Rattle.std.specs.Prelude.{◌≡◌, ℕ, List, None, Some, bytes_eq, find, if◌then◌else◌}
use Rattle.std.specs.Option.{option_or}
use Rattle.indexmap.specs.IndexMap.{IndexMap, get}
use Rattle.lump_textures.specs.declared.texture.Texture.{Texture}
use Rattle.map_lint.specs.declared.texture_index.TextureIndex.{TextureIndex}

-- each name means the first texture that has it
abbrev pub IsTextureIndex : TextureIndex → Type 0
IsTextureIndex index =
    (bytes : List ℕ)
    → get bytes_eq index.by_name bytes ≡ find (λ t. bytes_eq t.name.bytes bytes) index.textures.now

-- the texture was noted under its name, unless another had it
abbrev pub Notes : {S : Type 0} → Texture → IndexMap (List ℕ) Texture S
    → IndexMap (List ℕ) Texture S → Type 0
Notes t old new =
    (bytes : List ℕ) → get bytes_eq new bytes
    ≡ option_or (get bytes_eq old bytes) (if bytes_eq t.name.bytes bytes then Some t else None)
