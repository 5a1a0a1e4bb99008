-- The marks of a picture for what there is to say of a map (docs/COMMANDS.md, "The program").
use Rattle.std.specs.Prelude.{ℕ, List, Option, ◌++◌, map, pos, slice_get, string_bytes}
use Rattle.std.specs.Option.{option_map_or, unwrap_or}
use Rattle.lump_records.specs.declared.records.Line.{Line}
use Rattle.lump_records.specs.declared.records.Vertex.{Vertex}
use Rattle.map_tables.specs.Tables.{Tables}
use Rattle.map_checks.specs.Findings.{findings}
use Rattle.map_checks.specs.Texts.{finding_text}
use Rattle.map_checks.specs.declared.finding.Finding.{Finding}
use Rattle.map_checks.specs.declared.finding.Finding.TheVariants.{VertexUnused, SideUnused, SectorUnused, TextureMissing, SectorOpen, NoPlayerStart}
use Rattle.map_lint.specs.Rules.{warnings}
use Rattle.map_lint.specs.Texts.{warning_text}
use Rattle.map_lint.specs.declared.warning.Rule.{Rule}
use Rattle.map_lint.specs.declared.warning.Rule.TheVariants.{SectorInside}
use Rattle.map_lint.specs.declared.warning.Warning.{Warning}
use Rattle.map_lint.specs.declared.whereabouts.Whereabouts.{Whereabouts}
use Rattle.map_lint.specs.declared.whereabouts.Whereabouts.TheVariants.{Unplaced, Between}
use Rattle.map_lint.specs.declared.whereabouts.Whereabouts.TheVariants as told
use Rattle.map_picture.specs.Numbers.{longest_line}
use Rattle.map_svg.specs.declared.marks.Mark.{Mark}
use Rattle.map_svg.specs.declared.marks.MarkPlace.{MarkPlace}
use Rattle.map_svg.specs.declared.marks.MarkPlace.TheVariants.{Along, At, Corner}

-- where a mark is, and what it says
abbrev pub said_at : Mark → MarkPlace × List ℕ
said_at k = (k.place, string_bytes k.text)

-- at vertex n
abbrev pub mark_at_vertex : Tables → ℕ → MarkPlace
mark_at_vertex m n = option_map_or At (slice_get m.vertices n) Corner

-- the vertex of a number, and (0,0) past the vertices
abbrev pub line_end : Tables → ℕ → Vertex
line_end m n = unwrap_or (slice_get m.vertices n) (record { x = pos 0; y = pos 0 })

-- along a line, if there is one
abbrev pub mark_along : Tables → Option Line → MarkPlace
mark_along m found =
    option_map_or (λ l. Along (line_end m l.v1) (line_end m l.v2)) found Corner

-- where to look for what a finding tells of: what has no place is in the page's corner
abbrev pub finding_place : Tables → Finding → MarkPlace
finding_place m (VertexUnused n) = mark_at_vertex m n
finding_place m (TextureMissing line left texture) = mark_along m (slice_get m.lines line)
finding_place m (SectorOpen sector vertex) = mark_at_vertex m vertex
finding_place m (SideUnused n) = Corner
finding_place m (SectorUnused n) = Corner
finding_place m NoPlayerStart = Corner

-- where to look for a sector that is inside out, along the longest of its lines; another warning
-- without a place is in the corner
abbrev pub place_by_rule : Tables → Rule → ℕ → MarkPlace
place_by_rule m SectorInside n = mark_along m (longest_line m n)
place_by_rule m _ n = Corner

-- where to look for what a warning tells of
abbrev pub place_of_warning : Tables → Rule → ℕ → Whereabouts → MarkPlace
place_of_warning m rule n Unplaced = place_by_rule m rule n
place_of_warning m rule n (told.At p) = At p
place_of_warning m rule n (Between p q) = Along p q

-- the same of the whole warning
abbrev pub warning_place : Tables → Warning → MarkPlace
warning_place m w = place_of_warning m w.rule w.number w.whereabouts

-- the mark of a finding: its place and its text
abbrev pub finding_mark : Tables → Finding → MarkPlace × List ℕ
finding_mark m f = (finding_place m f, finding_text f)

-- the mark of a warning
abbrev pub warning_mark : Tables → Warning → MarkPlace × List ℕ
warning_mark m w = (warning_place m w, warning_text w)

-- the marks of a map: one for each finding, then one for each warning
abbrev pub marks_of : Tables → List (MarkPlace × List ℕ)
marks_of m = map (finding_mark m) (findings m) ++ map (warning_mark m) (warnings m)
