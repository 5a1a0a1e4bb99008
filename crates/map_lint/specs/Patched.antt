-- Middle walls of two-sided lines, on whose textures patches share a column.
use Rattle.std.specs.Prelude.{◌&&◌, Bool, List, false, true}
use Rattle.std.specs.Option.{option_map_or}
use Rattle.lump_records.specs.Sides.{is_two_sided}
use Rattle.lump_records.specs.declared.records.Line.{Line}
use Rattle.lump_records.specs.declared.records.Name8.{Name8}
use Rattle.lump_textures.specs.declared.texture.Texture.{Texture}
use Rattle.map_tables.specs.Tables.{Tables}
use Rattle.map_lint.specs.Short.{texture_shown}
use Rattle.map_lint.specs.Walls.{name_on}
use Rattle.map_lint.specs.declared.wall.Part.{Part}
use Rattle.map_lint.specs.declared.wall.Part.TheVariants.{Middle}
use Rattle.map_lint.specs.declared.wall.Wall.{Wall}

-- the part is the middle one
abbrev pub is_middle : Part → Bool
is_middle Middle = true
is_middle _ = false

-- the name means a texture with a column that more than one of its patches covers
abbrev pub names_patched : List Texture → Name8 → Bool
names_patched textures name =
    option_map_or (λ t. t.is_patched) (texture_shown textures name) false

-- the wall is a middle one of a two-sided line, and its name means such a one
abbrev pub wall_patched : List Texture → Tables → Line → Wall → Bool
wall_patched textures m l w = is_two_sided l && is_middle w.part
    && names_patched textures (name_on m l w)
