-- Where on the map to look for the subject of a warning.
use Rattle.std.specs.Prelude.{ℕ, slice_get}
use Rattle.std.specs.Option.{option_map_or}
use Rattle.map_tables.specs.Tables.{Tables}
use Rattle.map_tables.specs.WellFormed.{nth_vertex}
use Rattle.map_lint.specs.declared.warning.Rule.{Rule}
use Rattle.map_lint.specs.declared.warning.Rule.TheVariants.{OneStart, ThingFree, TagGiven, TagOfSector, LineSpecialKnown, ThingKnown, TextureShows, LinesApart, ThingInside, DoorBacked, DonutBacked, ScrollsFit, TeleportLands, KeyGiven, TextureKnown, TextureReaches, PatchesApart}
use Rattle.map_lint.specs.declared.whereabouts.Whereabouts.{Whereabouts}
use Rattle.map_lint.specs.declared.whereabouts.Whereabouts.TheVariants.{Unplaced, At, Between}
use Rattle.lump_records.specs.Things.{thing_place}

-- where thing n stands
abbrev pub at_thing : Tables → ℕ → Whereabouts
at_thing m n = option_map_or (λ t. At (thing_place t)) (slice_get m.things n) Unplaced

-- where the ends of line n are
abbrev pub along_line : Tables → ℕ → Whereabouts
along_line m n =
    option_map_or (λ l. Between (nth_vertex m.vertices l.v1) (nth_vertex m.vertices l.v2))
    (slice_get m.lines n) Unplaced

-- where to look for item n, which breaks the rule: at a thing or along a line, otherwise there is no place
unfoldable pub whereabouts_of : Tables → Rule → ℕ → Whereabouts
whereabouts_of m OneStart n = at_thing m n
whereabouts_of m ThingKnown n = at_thing m n
whereabouts_of m ThingInside n = at_thing m n
whereabouts_of m ThingFree n = at_thing m n
whereabouts_of m TagGiven n = along_line m n
whereabouts_of m TagOfSector n = along_line m n
whereabouts_of m LineSpecialKnown n = along_line m n
whereabouts_of m TextureShows n = along_line m n
whereabouts_of m LinesApart n = along_line m n
whereabouts_of m DoorBacked n = along_line m n
whereabouts_of m DonutBacked n = along_line m n
whereabouts_of m ScrollsFit n = along_line m n
whereabouts_of m TeleportLands n = along_line m n
whereabouts_of m KeyGiven n = along_line m n
whereabouts_of m TextureKnown n = along_line m n
whereabouts_of m TextureReaches n = along_line m n
whereabouts_of m PatchesApart n = along_line m n
whereabouts_of m _ n = Unplaced
