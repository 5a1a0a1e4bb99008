-- What a contract sees of maps in memory with the origins of their items, and what these keep.
use Rattle.std.specs.Prelude.{◌≤◌, map}
use Rattle.map_tables.specs.Projects.{body_len, project_of}
use Rattle.run_canvas.specs.OriginFields.{item_origins}
use Rattle.run_canvas.specs.Origins.{HasEachOrigin, OriginMaps}
use Rattle.run_canvas.specs.declared.origin_draft.OriginDraft.TheInside.{Inside}

-- what a contract sees
abbrev pub origin_maps : Inside → OriginMaps
origin_maps d = record {
  draft = record { maps = project_of d.maps; cap = d.cap };
  place = d.place;
  origins = map item_origins d.origins.items;
}

-- the maps fit, and each of their items has an origin
pub record KeepsOrigins (d : Inside) : Type 0 where
  pub fits : body_len (project_of d.maps) ≤ d.cap
  pub each : HasEachOrigin (project_of d.maps).maps (map item_origins d.origins.items)
