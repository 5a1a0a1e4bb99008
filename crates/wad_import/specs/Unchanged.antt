-- A level of which nothing is changed.
use Rattle.std.specs.Prelude.{◌≡◌, ◌↔◌, [], None}
use Rattle.lump_records.specs.declared.records.Name8.{Name8}
use Rattle.wad_levels.specs.Drawn.{DrawnLists}
use Rattle.wad_levels.specs.Lengths.{other_hindrance}
use Rattle.map_tables.specs.Tables.{Tables}
use Rattle.wad_import.specs.Imported.{changes, imported}

-- the map has the very lists of the level
pub record HasLists (d : DrawnLists) (m : Tables) : Type 0 where
  pub vertices : m.vertices ≡ d.vertices
  pub sectors : m.sectors ≡ d.sectors
  pub sides : m.sides ≡ d.sides
  pub lines : m.lines ≡ d.lines
  pub things : m.things ≡ d.things

-- nothing is told of a level that nothing hinders but lines of no length exactly where it is its map,
-- list by list
abbrev pub UntoldLevelsStay : Type 0
UntoldLevelsStay =
    (name : Name8) (d : DrawnLists) → other_hindrance d ≡ None
    → (changes d ≡ [] ↔ HasLists d (imported name d))
