-- The text of a change, and of a cause why a level is no map: one line without its end (docs/FORMAT.md,
-- "A map of a WAD's level").
use Rattle.std.specs.Prelude.{ℕ, List, ◌++◌, codes, decimal}
use Rattle.std.specs.Fmt.{signed_decimal}
use Rattle.wad_levels.specs.Texts.{hindrance_text}
use Rattle.map_tables.specs.declared.kind.Kind.{Kind}
use Rattle.map_tables.specs.declared.kind.Kind.TheVariants as kind
use Rattle.wad_import.specs.declared.change.Change.{Change}
use Rattle.wad_import.specs.declared.change.Change.TheVariants.{VerticesBehind, VertexAgain, Light, Flats, Textures, LineOut, TwoSided, ThingOut, Angle}
use Rattle.wad_import.specs.declared.error.ImportError.{ImportError}
use Rattle.wad_import.specs.declared.error.ImportError.TheVariants.{Hindered, NoMarker, TooMany, VertexOutside, SectorName, SectorNumber, SideName, LineNumber, OutOfMemory}

-- the text of a change: the item, its number in decimal, and what is changed
abbrev pub change_text : Change → List ℕ
change_text (VerticesBehind n) =
    codes "vertices left out behind the last that a line uses: " ++ decimal n
change_text (VertexAgain n first) =
    codes "vertex " ++ decimal n ++ codes ": is at the place of vertex " ++ decimal first
change_text (Light n old new) =
    codes "sector " ++ decimal n ++ codes ": light " ++ signed_decimal old ++ codes " is "
    ++ signed_decimal new
change_text (Flats n) =
    codes "sector " ++ decimal n ++ codes ": flats named in capitals, up to a NUL"
change_text (Textures n) =
    codes "side " ++ decimal n ++ codes ": textures named in capitals, up to a NUL"
change_text (LineOut n) =
    codes "line " ++ decimal n ++ codes ": left out, since it has no length"
change_text (TwoSided n) =
    codes "line " ++ decimal n ++ codes ": without flag 4, since it has no left side"
change_text (ThingOut n) = codes "thing " ++ decimal n ++ codes ": left out"
change_text (Angle n old new) =
    codes "thing " ++ decimal n ++ codes ": angle " ++ signed_decimal old ++ codes " is "
    ++ signed_decimal new

-- what the items of a kind are called
abbrev pub kind_text : Kind → List ℕ
kind_text kind.Vertex = codes "vertices"
kind_text kind.Sector = codes "sectors"
kind_text kind.Side = codes "sides"
kind_text kind.Line = codes "lines"
kind_text kind.Thing = codes "things"

-- the text of a cause, its number in decimal
abbrev pub import_refusal_text : ImportError → List ℕ
import_refusal_text (Hindered h) = hindrance_text h
import_refusal_text NoMarker = codes "the level has a name that no map may have"
import_refusal_text (TooMany k) =
    codes "the level has more " ++ kind_text k ++ codes " than a map holds"
import_refusal_text (VertexOutside n) =
    codes "vertex " ++ decimal n ++ codes " is outside the coordinates"
import_refusal_text (SectorName n) =
    codes "sector " ++ decimal n ++ codes " has a name that no flat may have"
import_refusal_text (SectorNumber n) =
    codes "sector " ++ decimal n ++ codes " has a special or tag below 0"
import_refusal_text (SideName n) =
    codes "side " ++ decimal n ++ codes " has a name that no texture may have"
import_refusal_text (LineNumber n) =
    codes "line " ++ decimal n ++ codes " has flags, special or tag above 32767"
import_refusal_text OutOfMemory = codes "the program is out of memory"
