-- The map that a level of any WAD is after the changes, and what is changed (docs/FORMAT.md,
-- "A map of a WAD's level").
use Rattle.std.specs.Prelude.{ℕ, ◌+◌, ◌-◌, max, Bool, if◌then◌else◌, not, ◌&&◌, ◌==◌, bytes_eq, List, [], ◌∷◌, ◌++◌, length, map, filter, filter_map, take, Option, Some, None}
use Rattle.std.specs.List.{enumerate_from}
use Rattle.std.specs.Ordering.{int_eq}
use Rattle.lump_records.specs.declared.records.Name8.{Name8}
use Rattle.lump_records.specs.declared.records.Thing.{Thing}
use Rattle.lump_records.specs.declared.records.Line.{Line}
use Rattle.lump_records.specs.declared.records.Side.{Side}
use Rattle.lump_records.specs.declared.records.Vertex.{Vertex}
use Rattle.lump_records.specs.declared.records.Sector.{Sector}
use Rattle.wad_levels.specs.Drawn.{DrawnLists}
use Rattle.wad_levels.specs.Lengths.{has_no_length, with_lengths}
use Rattle.map_tables.specs.Tables.{Tables}
use Rattle.wad_import.specs.Mended.{is_kept, linked_line, lacks_left_side, mended_angle, mended_light, mended_name, mended_sector, mended_side, mended_thing}
use Rattle.wad_import.specs.Once.{each_once, kept_number, place_changes}
use Rattle.wad_import.specs.declared.change.Change.{Change}
use Rattle.wad_import.specs.declared.change.Change.TheVariants.{VerticesBehind, Light, Flats, Textures, LineOut, TwoSided, ThingOut, Angle}

-- ---- the map

-- one more than the greatest number of a vertex that a line names, or 0
abbrev pub vertex_reach : List Line → ℕ
vertex_reach [] = 0
vertex_reach (x ∷ xs) = max (max (x.v1 + 1) (x.v2 + 1)) (vertex_reach xs)

-- the lines that stay
abbrev pub kept_lines : DrawnLists → List Line
kept_lines d = (with_lengths d).lines

-- one more than the greater number of a vertex that the line names, or 0 where it is left out
abbrev pub line_reach : DrawnLists → Line → ℕ
line_reach d x = if has_no_length d x then 0 else max (x.v1 + 1) (x.v2 + 1)

-- the vertices up to the last that a line uses which stays
abbrev pub reached_vertices : DrawnLists → List Vertex
reached_vertices d = take (vertex_reach (kept_lines d)) d.vertices

-- the things that stay
abbrev pub kept_things : DrawnLists → List Thing
kept_things d = filter is_kept d.things

-- the map of this name that the level is after the changes
abbrev pub imported : Name8 → DrawnLists → Tables
imported name d =
    record {
      name = name;
      vertices = each_once (reached_vertices d);
      sectors = map mended_sector d.sectors;
      sides = map mended_side d.sides;
      lines = map (linked_line (kept_number (reached_vertices d))) (kept_lines d);
      things = map mended_thing (kept_things d);
    }

-- ---- what is changed

abbrev pub same_name : Name8 → Name8 → Bool
same_name a b = bytes_eq a.bytes b.bytes

-- the vertices that are left out behind the last that a line uses which stays
abbrev pub vertex_changes : DrawnLists → List Change
vertex_changes d =
    let behind = length d.vertices - length (reached_vertices d) in
    if behind == 0 then [] else VerticesBehind behind ∷ []

-- what is changed of a sector of a number, of a side, of a line, of a thing

abbrev pub light_change : ℕ × Sector → Option Change
light_change p =
    let new = mended_light p.1.light in
    if int_eq new p.1.light then None else Some (Light p.0 p.1.light new)

abbrev pub flat_change : ℕ × Sector → Option Change
flat_change p =
    if same_name (mended_name p.1.floor_name) p.1.floor_name
    && same_name (mended_name p.1.ceiling_name) p.1.ceiling_name
    then None else Some (Flats p.0)

abbrev pub texture_change : ℕ × Side → Option Change
texture_change p =
    if same_name (mended_name p.1.upper) p.1.upper
    && same_name (mended_name p.1.lower) p.1.lower
    && same_name (mended_name p.1.middle) p.1.middle
    then None else Some (Textures p.0)

abbrev pub line_change : DrawnLists → ℕ × Line → Option Change
line_change d p =
    if has_no_length d p.1
    then Some (LineOut p.0)
    else (if lacks_left_side p.1 then Some (TwoSided p.0) else None)

abbrev pub thing_change : ℕ × Thing → Option Change
thing_change p =
    let new = mended_angle p.1.angle in
    if not (is_kept p.1)
    then Some (ThingOut p.0)
    else (if int_eq new p.1.angle then None else Some (Angle p.0 p.1.angle new))

-- what is changed of the items of a list, in its order
abbrev pub changes_among : {X : Type 0} → (ℕ × X → Option Change) → List X → List Change
changes_among change xs = filter_map change (enumerate_from 0 xs)

-- all that is changed: of vertices, of sectors, of sides, of lines, of things
abbrev pub changes : DrawnLists → List Change
changes d =
    vertex_changes d ++ place_changes (reached_vertices d)
    ++ changes_among light_change d.sectors
    ++ changes_among flat_change d.sectors
    ++ changes_among texture_change d.sides
    ++ changes_among (line_change d) d.lines
    ++ changes_among thing_change d.things
