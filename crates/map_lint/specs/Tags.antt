-- Tags that a line lacks, or that connect it with no sector, and tags of sectors that no line has.
use Rattle.std.specs.Prelude.{ℕ, Bool, ◌&&◌, ◌==◌, not}
use Rattle.std.specs.List.{list_any}
use Rattle.lump_records.specs.declared.records.Line.{Line}
use Rattle.lump_records.specs.declared.records.Sector.{Sector}
use Rattle.map_tables.specs.Tables.{Tables}
use Rattle.map_play.specs.Tags.{tag_of}
use Rattle.map_lint.specs.Known.{needs_tag}

-- a line's tag
abbrev pub line_tag : Line → ℕ
line_tag l = l.tag

-- the line's special needs a tag, and the line has none
abbrev pub tag_missing : Line → Bool
tag_missing l = needs_tag l && (l.tag == 0)

-- the line's special needs a tag, and no sector has the line's tag
abbrev pub tag_of_no_sector : Tables → Line → Bool
tag_of_no_sector m l = needs_tag l && not (l.tag == 0)
    && not (list_any (λ s. tag_of s == l.tag) m.sectors)

-- a line should have the tag: not 0, which is no tag, nor 666 and 667, which deaths of monsters trigger
abbrev pub needs_line : ℕ → Bool
needs_line tag = not (tag == 0) && not (tag == 666) && not (tag == 667)

-- a line should have the sector's tag, and none has it
abbrev pub tag_of_no_line : Tables → Sector → Bool
tag_of_no_line m s = needs_line (tag_of s) && not (list_any (λ l. line_tag l == tag_of s) m.lines)
