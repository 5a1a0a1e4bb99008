-- The text of what a warning names beside its item.
use Rattle.std.specs.Prelude.{ℕ, if◌then◌else◌, List, ◌++◌, codes}
use Rattle.lump_records.specs.Names.{name_text}
use Rattle.std.specs.Str.{is_utf8}
use Rattle.lump_records.specs.declared.records.Name8.{Name8}
use Rattle.map_checks.specs.Texts.{side_text}
use Rattle.map_lint.specs.declared.shown.Shown.{Shown}
use Rattle.map_lint.specs.declared.wall.Part.{Part}
use Rattle.map_lint.specs.declared.wall.Part.TheVariants.{Upper, Lower, Middle}
use Rattle.map_lint.specs.declared.wall.Surface.{Surface}
use Rattle.map_lint.specs.declared.wall.Surface.TheVariants.{Floor, Ceiling, OfLine}

-- the word for a part of a side
abbrev pub wall_part_text : Part → List ℕ
wall_part_text Upper = codes "upper"
wall_part_text Lower = codes "lower"
wall_part_text Middle = codes "middle"

-- the words for a surface
abbrev pub surface_text : Surface → List ℕ
surface_text Floor = codes "floor"
surface_text Ceiling = codes "ceiling"
surface_text (OfLine w) = side_text w.is_left ++ codes " " ++ wall_part_text w.part

-- a name's text, or `?` where its bytes are no text
abbrev pub name_shown : Name8 → List ℕ
name_shown name = if is_utf8 (name_text name) then name_text name else codes "?"

-- the surface and the name on it
abbrev pub named_surface_text : Shown → List ℕ
named_surface_text s = surface_text s.surface ++ codes " " ++ name_shown s.name
