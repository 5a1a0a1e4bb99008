-- The value that the fields of `Maps` represent, and their invariant.
use Rattle.std.specs.Prelude.{◌≤◌, length, take, drop}
use Rattle.map_tables.specs.declared.maps.Maps.TheInside.{Inside}
use Rattle.map_tables.specs.Projects.{MapsView, WellFormedProject, project_of}

-- the current map is stored apart from the others; its number says where it belongs in their order
abbrev pub maps_view : Inside → MapsView
maps_view a =
    record {
      tables = a.map.tables;
      spare = a.map.spare;
      others = record {
        before = take a.number a.others.items;
        behind =
            drop a.number a.others.items;
      };
    }

-- the maps are those of a well-formed project
pub record KeepsMaps (a : Inside) : Type 0 where
  pub number : a.number ≤ length a.others.items
  pub project : WellFormedProject (project_of (maps_view a))
