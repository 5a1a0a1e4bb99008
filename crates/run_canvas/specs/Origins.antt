-- The origins of the items of maps: for each item the place of the line that added it, among the
-- lines of a script, from 0 (docs/COMMANDS.md, "Scripts in place of a project").
use Rattle.std.specs.Prelude.{◌≡◌, ℕ, true, false, if◌then◌else◌, List, [], ◌∷◌, ◌++◌, get_or, length, map, remove, replicate, slice_get, slice_set, Option, None, Some, Result, Ok, Err}
use Rattle.map_commands.specs.ProjectCommands.{InProjectRange, project_spelling}
use Rattle.map_commands.specs.Step.{dropped_of, need_of}
use Rattle.map_commands.specs.declared.command.Command.{Command}
use Rattle.map_commands.specs.declared.project.command.ProjectCommand.{ProjectCommand}
use Rattle.map_commands.specs.declared.project.command.ProjectCommand.TheVariants.{Current, SelectMap, DropMap}
use Rattle.map_tables.specs.Projects.{ProjectMaps, has_map, map_number_of}
use Rattle.map_tables.specs.Tables.{Tables, count_of}
use Rattle.map_tables.specs.declared.edit.Need.{Need}
use Rattle.map_tables.specs.declared.kind.Kind.{Kind}
use Rattle.map_tables.specs.declared.kind.Kind.TheVariants as kind
use Rattle.run_canvas.specs.Canvases.{ChangesDraft, Drafted, TellsOfMaps, first_draft, is_query_line}
use Rattle.run_canvas.specs.declared.canvas.Canvas as canvas

-- ---- The items of a map

-- the origins of a map's items, by the items' numbers
pub record ItemOrigins : Type 0 where
  pub vertices : List ℕ
  pub sectors : List ℕ
  pub sides : List ℕ
  pub lines : List ℕ
  pub things : List ℕ

-- those of the items of a kind
abbrev pub origins_by : ItemOrigins → Kind → List ℕ
origins_by o kind.Vertex = o.vertices
origins_by o kind.Sector = o.sectors
origins_by o kind.Side = o.sides
origins_by o kind.Line = o.lines
origins_by o kind.Thing = o.things

-- a map without items
abbrev pub no_origins : ItemOrigins
no_origins = record { vertices = []; sectors = []; sides = []; lines = []; things = [] }

-- so many items more, which the line at a place added
abbrev pub with_origins : ItemOrigins → Need → ℕ → ItemOrigins
with_origins o need place = record {
  vertices = o.vertices ++ replicate need.vertices place;
  sectors = o.sectors ++ replicate need.sectors place;
  sides = o.sides ++ replicate need.sides place;
  lines = o.lines ++ replicate need.lines place;
  things = o.things ++ replicate need.things place;
}

-- the item that has a number is removed, and the others keep their origins
abbrev pub without_origin : ItemOrigins → Kind → ℕ → ItemOrigins
without_origin o kind.Vertex n = record o { vertices = remove o.vertices n }
without_origin o kind.Sector n = record o { sectors = remove o.sectors n }
without_origin o kind.Side n = record o { sides = remove o.sides n }
without_origin o kind.Line n = record o { lines = remove o.lines n }
without_origin o kind.Thing n = record o { things = remove o.things n }

-- those of what a command of the line at a place leaves: the item that it drops takes its origin along,
-- or else what it adds has this place as its origin
abbrev pub origins_with : ItemOrigins → Option (Kind × ℕ) → Need → ℕ → ItemOrigins
origins_with o None need place = with_origins o need place
origins_with o (Some dropped) need place = without_origin o dropped.0 dropped.1

-- the origins after a command of the line at a place: what it adds has this one, and all others stay
abbrev pub origins_after : ItemOrigins → Command → ℕ → ItemOrigins
origins_after o c place = origins_with o (dropped_of c) (need_of c) place

-- ---- The maps of a project

-- the same of all maps, by the maps' numbers: a new map has no items, and one that is dropped takes
-- its origins along
abbrev pub all_origins_after : ProjectMaps → List ItemOrigins → ProjectCommand → ℕ
    → List ItemOrigins
all_origins_after p all (Current c) place =
    slice_set all p.current (origins_after (get_or all p.current no_origins) c place)
all_origins_after p all (SelectMap name) place =
    if has_map p name then all else all ++ no_origins ∷ []
all_origins_after p all (DropMap name) place = remove all (map_number_of p name)

-- how many items of each kind have an origin
abbrev pub origin_count : ItemOrigins → Kind → ℕ
origin_count o k = length (origins_by o k)

-- each item of the maps has an origin
abbrev pub HasEachOrigin : List Tables → List ItemOrigins → Type 0
HasEachOrigin ms all = map origin_count all ≡ map count_of ms

-- the origin of the item of a kind and a number in the map with a number, if there is one
abbrev pub origin_of : List ItemOrigins → ℕ → Kind → ℕ → Option ℕ
origin_of all m k n = slice_get (origins_by (get_or all m no_origins) k) n

-- ---- A canvas that keeps them

-- maps in memory with the origins of their items, and the place of the line at hand
pub record OriginMaps : Type 0 where
  pub draft : Drafted
  pub place : ℕ
  pub origins : List ItemOrigins

-- the empty project before the first line
abbrev pub first_origins : OriginMaps
first_origins = record { draft = first_draft; place = 0; origins = no_origins ∷ [] }

-- the origins after a line that is no query: those after its command, or as before if it was refused
abbrev pub NotesOrigins : OriginMaps → List ℕ → Result ℕ ℕ → List ItemOrigins → Type 0
NotesOrigins old line (Ok number) origins =
    (c : ProjectCommand) × InProjectRange c × (line ≡ project_spelling c)
    × (origins ≡ all_origins_after old.draft.maps old.origins c old.place)
NotesOrigins old line (Err code) origins = origins ≡ old.origins

-- such a line changed the maps, and their origins with them
abbrev pub ChangesOrigins : OriginMaps → List ℕ → Result ℕ ℕ → OriginMaps → Type 0
ChangesOrigins old line outcome new =
    ChangesDraft old.draft line outcome new.draft × (new.place ≡ old.place)
    × NotesOrigins old line outcome new.origins

-- all stays, and the answer to a query about the maps was written
abbrev pub TellsOfOrigins : OriginMaps → List ℕ → Option ℕ → OriginMaps → Option (List ℕ)
    → Option (List ℕ) → Type 0
TellsOfOrigins old line refusal new writer-old writer-new =
    (new ≡ old) × TellsOfMaps old.draft.maps line refusal writer-old writer-new

-- maps in memory with the origins of their items; no command waits
abbrev pub origin_canvas : canvas.Ghosts OriginMaps
origin_canvas = record {
  changes = ChangesOrigins;
  maps_in = λ d. d.draft.maps;
  cap_in = λ d. d.draft.cap;
  is_query = is_query_line;
  tells = TellsOfOrigins;
  begins = λ old place alone new. new ≡ record old { place = place };
  makes_room = λ old lines refusal new. (refusal ≡ None) × (new ≡ old);
  settles = λ old new. new ≡ old;
  loses = λ old new. ⊥;
  is_alone = λ _. true;
  holds_earlier = λ _. false;
  has_lost = λ _. false;
}
