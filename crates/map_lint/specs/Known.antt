-- The types and specials of Doom, as the "Unofficial Doom Specs" 1.666 list them: runs of numbers, each given by
-- its first and its last.
use Rattle.std.specs.Prelude.{Bool, ◌&&◌, not, List, [], ◌∷◌, ℤ, pos}
use Rattle.lump_records.specs.declared.records.Thing.{Thing}
use Rattle.lump_records.specs.declared.records.Line.{Line}
use Rattle.lump_records.specs.declared.records.Sector.{Sector}
use Rattle.lump_records.specs.Runs.{is_among}

-- the types of things
abbrev pub known_things : List (ℤ × ℤ)
known_things =
    (pos 1, pos 89) ∷ (pos 2001, pos 2008) ∷ (pos 2010, pos 2015) ∷ (pos 2018, pos 2019)
    ∷ (pos 2022, pos 2026)
    ∷ (pos 2028, pos 2028) ∷ (pos 2035, pos 2035) ∷ (pos 2045, pos 2049) ∷ (pos 3001, pos 3006) ∷ []

-- the specials of lines
abbrev pub known_lines : List (ℤ × ℤ)
known_lines = (pos 0, pos 77) ∷ (pos 79, pos 84) ∷ (pos 86, pos 141) ∷ []

-- the line specials that need no tag: no special, doors that open by hand, exits, and a wall that scrolls
abbrev pub tagless_lines : List (ℤ × ℤ)
tagless_lines =
    (pos 0, pos 1) ∷ (pos 11, pos 11) ∷ (pos 26, pos 28) ∷ (pos 31, pos 34) ∷ (pos 48, pos 48)
    ∷ (pos 51, pos 52)
    ∷ (pos 117, pos 118) ∷ (pos 124, pos 124) ∷ []

-- the specials of sectors
abbrev pub known_sectors : List (ℤ × ℤ)
known_sectors = (pos 0, pos 5) ∷ (pos 7, pos 14) ∷ (pos 16, pos 17) ∷ []

-- the thing's type is one of Doom's
abbrev pub is_known_thing : Thing → Bool
is_known_thing t = is_among known_things t.kind

-- the line's special is one of Doom's
abbrev pub is_known_line : Line → Bool
is_known_line l = is_among known_lines (pos l.special)

-- the sector's special is one of Doom's
abbrev pub is_known_sector : Sector → Bool
is_known_sector s = is_among known_sectors s.special

-- the line's special works by the line's tag
abbrev pub needs_tag : Line → Bool
needs_tag l = is_known_line l && not (is_among tagless_lines (pos l.special))
