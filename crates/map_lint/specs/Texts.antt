-- The text of a warning: one line without the line end.
use Rattle.std.specs.Prelude.{ℕ, List, [], ◌++◌, None, Option, Some, codes, decimal}
use Rattle.std.specs.Fmt.{signed_decimal}
use Rattle.lump_records.specs.declared.records.Vertex.{Vertex}
use Rattle.map_lint.specs.Surfaces.{named_surface_text}
use Rattle.map_lint.specs.declared.shown.Shown.{Shown}
use Rattle.map_lint.specs.declared.warning.Warning.{Warning}
use Rattle.map_lint.specs.declared.whereabouts.Whereabouts.{Whereabouts}
use Rattle.map_lint.specs.declared.whereabouts.Whereabouts.TheVariants.{Unplaced, At, Between}
use Rattle.map_lint.specs.declared.warning.Rule.{Rule}
use Rattle.map_lint.specs.declared.warning.Rule.TheVariants.{PlayerStart, OneStart, DeathmatchStarts, CeilingAboveFloor, TagGiven, TagOfSector, TagOfLine, LineSpecialKnown, SectorSpecialKnown, ThingKnown, TextureShows, SectorInside, LinesApart, ThingInside, DoorBacked, DonutBacked, ScrollsFit, TeleportLands, LevelEnds, KeyGiven, NeighboursFit, ThingFree, FlatKnown, TextureKnown, TextureReaches, PatchesApart}

-- the word for a broken rule
abbrev pub word_of : Rule → List ℕ
word_of PlayerStart = codes "no-start"
word_of OneStart = codes "start-twice"
word_of DeathmatchStarts = codes "few-deathmatch-starts"
word_of CeilingAboveFloor = codes "ceiling-below-floor"
word_of TagGiven = codes "tag-missing"
word_of TagOfSector = codes "tag-of-no-sector"
word_of TagOfLine = codes "tag-of-no-line"
word_of LineSpecialKnown = codes "line-special-unknown"
word_of SectorSpecialKnown = codes "sector-special-unknown"
word_of ThingKnown = codes "thing-type-unknown"
word_of TextureShows = codes "texture-hidden"
word_of SectorInside = codes "sector-inside-out"
word_of LinesApart = codes "line-crossed"
word_of ThingInside = codes "thing-outside"
word_of DoorBacked = codes "door-without-back"
word_of DonutBacked = codes "donut-without-back"
word_of ScrollsFit = codes "too-many-scrolls"
word_of TeleportLands = codes "teleport-nowhere"
word_of LevelEnds = codes "no-exit"
word_of KeyGiven = codes "key-missing"
word_of NeighboursFit = codes "too-many-neighbours"
word_of ThingFree = codes "thing-stuck"
word_of FlatKnown = codes "flat-unknown"
word_of TextureKnown = codes "texture-unknown"
word_of TextureReaches = codes "texture-short"
word_of PatchesApart = codes "texture-patched"

-- a place: its coordinates in decimal, in parentheses
abbrev pub place_text : Vertex → List ℕ
place_text v = codes "(" ++ signed_decimal v.x ++ codes "," ++ signed_decimal v.y ++ codes ")"

-- where to look: one place, two places, or nothing
abbrev pub whereabouts_text : Whereabouts → List ℕ
whereabouts_text Unplaced = []
whereabouts_text (At v) = codes " at " ++ place_text v
whereabouts_text (Between v w) = codes " at " ++ place_text v ++ codes " " ++ place_text w

-- what the warning names beside its item, behind a space
abbrev pub named_text : Option Shown → List ℕ
named_text None = []
named_text (Some s) = codes " " ++ named_surface_text s

-- the text of a warning: the word, the number in decimal, where to look, and what shows there, separated by spaces
abbrev pub warning_text : Warning → List ℕ
warning_text w = word_of w.rule ++ codes " " ++ decimal w.number ++ whereabouts_text w.whereabouts
    ++ named_text w.shown
