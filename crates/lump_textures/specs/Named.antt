-- Which texture a name means.
use Rattle.std.specs.Prelude.{List, Option, bytes_eq, find}
use Rattle.lump_records.specs.declared.records.Name8.{Name8}
use Rattle.lump_textures.specs.declared.texture.Texture.{Texture}

-- the first of the textures that has the name
abbrev pub texture_named : List Texture → Name8 → Option Texture
texture_named textures name = find (λ t. bytes_eq t.name.bytes name.bytes) textures
