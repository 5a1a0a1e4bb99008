-- What is given of a level that nothing refuses.
use Rattle.std.specs.Prelude.{◌≡◌, None}
use Rattle.lump_records.specs.declared.records.Name8.{Name8}
use Rattle.wad_levels.specs.Drawn.{DrawnLists}
use Rattle.map_tables.specs.Projects.{project_of}
use Rattle.map_tables.specs.ProjectBody.{alone}
use Rattle.wad_import.specs.Imported.{changes, imported}
use Rattle.wad_import.specs.Refused.{import_refusal}
use Rattle.wad_import.specs.declared.import.Imported.{Imported}

-- nothing refuses the level; the map alone is that of the lists, and all that is changed is told
pub record IsImported (name : Name8) (d : DrawnLists) (i : Imported) : Type 0 where
  pub accepted : import_refusal name d ≡ None
  pub project : project_of i.maps ≡ alone (imported name d)
  pub told : i.changes.items ≡ changes d
