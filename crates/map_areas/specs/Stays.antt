-- What stays of a map when a shape is drawn into it.
use Rattle.std.specs.Prelude.{◌≡◌, ◌⊎◌, ℕ, true, List, [], ◌∷◌, ◌++◌, Option, Some, None, length, slice_get, bit_and, bit_or}
use Rattle.lump_records.specs.Names.{name_of}
use Rattle.lump_records.specs.declared.records.Line.{Line}
use Rattle.lump_records.specs.declared.records.Name8.{Name8}
use Rattle.lump_records.specs.declared.records.Side.{Side}
use Rattle.lump_records.specs.declared.records.Vertex.{Vertex}
use Rattle.map_plane.specs.Meeting.{is_on}
use Rattle.map_plane.specs.Places.{placed}
use Rattle.map_plane.specs.declared.places.PlacedLine.{PlacedLine}
use Rattle.map_tables.specs.Tables.{Tables}
use Rattle.map_tables.specs.declared.edit.Edit.{Edit}
use Rattle.map_tables.specs.declared.edit.Edit.TheVariants.{Add, Set, Drop}
use Rattle.map_tables.specs.declared.edit.Item.{Item}
use Rattle.map_tables.specs.declared.edit.Item.TheVariants as item
use Rattle.map_commands.specs.declared.command.Command.{Command}
use Rattle.map_commands.specs.declared.command.Command.TheVariants as command
use Rattle.map_areas.specs.Apart.{KeepsEachAlone}

-- the item is a side or a line
abbrev pub IsOfWall : Item → Type 0
IsOfWall (item.Side s) = Unit {0}
IsOfWall (item.Line l) = Unit {0}
IsOfWall i = ⊥

-- the item is anything but a thing
abbrev pub IsNoThing : Item → Type 0
IsNoThing (item.Thing t) = ⊥
IsNoThing i = Unit {0}

-- the edit adds an item but a thing, or changes a side or a line
abbrev pub IsDrawing : Edit → Type 0
IsDrawing (Add i) = IsNoThing i
IsDrawing (Set n i) = IsOfWall i
IsDrawing (Drop k n) = ⊥

-- the command is such an edit, or cuts a line
abbrev pub Draws : Command → Type 0
Draws (command.Edit e) = IsDrawing e
Draws (command.Split s) = Unit {0}
Draws c = ⊥

-- a list is the same as it was, but for what was added at its end
abbrev pub Continues : {X : Type 0} → List X → List X → Type 0
Continues {X = X} old new = (added : List X) × (new ≡ old ++ added)

-- the name stays, no vertex moves, the sectors that were there and the things are as they were, each by its number
pub record KeepsItems (old new : Tables) : Type 0 where
  pub name : new.name ≡ old.name
  pub vertices : Continues old.vertices new.vertices
  pub sectors : Continues old.sectors new.sectors
  pub things : new.things ≡ old.things

-- no texture
abbrev pub no_texture : Name8
no_texture = name_of (45 ∷ [])

-- a texture stays, or the middle texture comes where there was none
abbrev pub TakesOver : Name8 → Name8 → Name8 → Type 0
TakesOver was middle is = (is ≡ was) ⊎ ((was ≡ no_texture) × (is ≡ middle))

-- a side became one of a two-sided line: its middle texture went above and below, and nothing else changed
pub record IsMadeOpen (old new : Side) : Type 0 where
  pub upper : TakesOver old.upper old.middle new.upper
  pub lower : TakesOver old.lower old.middle new.lower
  pub others : new
      ≡ record old { upper = new.upper; lower = new.lower; middle = no_texture }

-- a side that faced what was round the border faces the new sector, and stays otherwise
pub record IsTurned (round : Option ℕ) (sector : ℕ) (old new : Side) : Type 0 where
  pub was_round : round ≡ Some old.sector
  pub others : new ≡ record old { sector = sector }

-- what becomes of a side: it stays; it faced what was round the border and now faces the new sector; or, if that was
-- the void, its line became two-sided
abbrev pub BecomesSide : Option ℕ → ℕ → Side → Side → Type 0
BecomesSide round sector old new =
    (new ≡ old) ⊎ (IsTurned round sector old new ⊎ ((round ≡ None) × IsMadeOpen old new))

-- an item of a list, if there is one with the number, is still there, and what became of it is as the relation says
abbrev pub BecomesAt : {X : Type 0} → (X → X → Type 0) → List X → List X → ℕ → Type 0
BecomesAt {X = X} Becomes old new n = (x : X) → slice_get old n ≡ Some x
    → (y : X) × (slice_get new n ≡ Some y) × Becomes x y

-- so for each item of a list
abbrev pub EachBecomes : {X : Type 0} → (X → X → Type 0) → List X → List X → Type 0
EachBecomes Becomes old new = (n : ℕ) → BecomesAt Becomes old new n

-- the flags of a line that became two-sided: 4 is set, 1 isn't, the others stay
abbrev pub opened_flags : ℕ → ℕ
opened_flags flags = bit_or (bit_and flags 65534) 4

-- what becomes of a line: it begins where it did, with its special and its tag, and with its flags, unless it became
-- two-sided
pub record BecomesLine (old new : Line) : Type 0 where
  pub start : new.v1 ≡ old.v1
  pub special : new.special ≡ old.special
  pub tag : new.tag ≡ old.tag
  pub flags : (new.flags ≡ old.flags) ⊎ (new.flags ≡ opened_flags old.flags)

-- a line has the fields of another one: its special, its tag, and its flags, unless it became two-sided
pub record HasFieldsOf (old new : Line) : Type 0 where
  pub special : new.special ≡ old.special
  pub tag : new.tag ≡ old.tag
  pub flags : (new.flags ≡ old.flags) ⊎ (new.flags ≡ opened_flags old.flags)

-- each line is covered by its parts: on each place that it lay on lies a line with its fields
abbrev pub AreInParts : Tables → Tables → Type 0
AreInParts old new = (n : ℕ) (l : Line) → slice_get old.lines n ≡ Some l
    → (p : Vertex) → is_on (placed old (n, l)) p ≡ true
    → (k : ℕ) × (x : Line) × (slice_get new.lines k ≡ Some x) × HasFieldsOf l x
    × (is_on (placed new (k, x)) p ≡ true)

-- what stays when an area is drawn: vertices, sectors and things, each side but for what becomes of those on the border
-- or inside, each line, whole or in parts, but for what becomes of its flags, and its sides, and each line that the
-- outline leaves alone altogether
pub record KeepsRest (es : List PlacedLine) (round : Option ℕ) (old new : Tables) : Type 0 where
  pub tables : KeepsItems old new
  pub sides : EachBecomes (BecomesSide round (length old.sectors)) old.sides new.sides
  pub lines : EachBecomes BecomesLine old.lines new.lines
  pub parts : AreInParts old new
  pub alone : KeepsEachAlone es old new
