-- Commands that are drawn in turn into a map.
use Rattle.std.specs.Prelude.{◌≡◌, ◌⊎◌, ℕ, true, All, List, [], ◌∷◌, None, Option, Some, fold}
use Rattle.std.specs.List.{list_any}
use Rattle.std.specs.Option.{option_or}
use Rattle.map_plane.specs.Meeting.{is_on}
use Rattle.map_plane.specs.declared.places.PlacedLine.{PlacedLine}
use Rattle.map_tables.specs.Errors.{code_of}
use Rattle.map_tables.specs.Outcomes.{least}
use Rattle.map_tables.specs.Tables.{Tables}
use Rattle.map_tables.specs.declared.error.MapError.TheVariants.{LineTooLong, TableFull}
use Rattle.map_tables.specs.declared.edit.Edit.TheVariants.{Add}
use Rattle.map_tables.specs.declared.edit.Item.TheVariants as item
use Rattle.map_commands.specs.Step.{InRange, after, faults}
use Rattle.map_commands.specs.declared.command.Command.{Command}
use Rattle.map_commands.specs.declared.command.Command.TheVariants as command
use Rattle.map_areas.specs.Stays.{Draws}
use Rattle.map_areas.specs.declared.error.AreaError.{AreaError}
use Rattle.map_areas.specs.declared.error.AreaError.TheVariants.{OutOfMemory, Refused}

-- the map accepts the command, which draws, and leaves another map
pub record TakesCommand (old : Tables) (c : Command) (new : Tables) : Type 0 where
  pub range : InRange c
  pub accepted : least (faults old c) ≡ None
  pub left : new ≡ after old c
  pub draws : Draws c

-- each of the commands is accepted by the map that those before it leave, and the last one leaves the new map
abbrev pub LeadTo : Tables → List Command → Tables → Type 0
LeadTo old [] new = new ≡ old
LeadTo old (c ∷ cs) new = InRange c × (least (faults old c) ≡ None) × LeadTo (after old c) cs new

-- each of the commands is accepted in turn
abbrev pub AreTaken : Tables → List Command → Type 0
AreTaken old cs = (new : Tables) × LeadTo old cs new

-- the map that the commands leave
abbrev pub drawn : Tables → List Command → Tables
drawn m cs = fold after m cs

-- the vertex that a command adds, if it adds one, lies on one of the edges
abbrev pub IsOnOutline : List PlacedLine → Command → Type 0
IsOnOutline es (command.Edit (Add (item.Vertex v))) = list_any (λ e. is_on e v) es ≡ true
IsOnOutline es (command.Split s) = list_any (λ e. is_on e s.at) es ≡ true
IsOnOutline es c = Unit {0}

-- a command draws, its numbers and names are in range, and it adds no vertex but on the edges
pub record DrawsOn (es : List PlacedLine) (c : Command) : Type 0 where
  pub range : InRange c
  pub draws : Draws c
  pub outline : IsOnOutline es c

-- a table is full, or a line is too long
abbrev pub IsOfRoom : ℕ → Type 0
IsOfRoom code = (code ≡ code_of TableFull) ⊎ (code ≡ code_of LineTooLong)

-- commands that draw so are accepted in turn, and the map that they lead to refuses one more with the code: for want of
-- room or for its length
pub record RefusesInTurn (es : List PlacedLine) (old : Tables) (code : ℕ) : Type 0 where
  pub room : IsOfRoom code
  pub before : List Command
  pub drawing : All (DrawsOn es) before
  pub new : Tables
  pub led : LeadTo old before new
  pub next : Command
  pub draws : DrawsOn es next
  pub refused : least (faults new next) ≡ Some code

-- the map refuses the command so, or memory lacks
abbrev pub IsFaultOf : Tables → Command → AreaError → Type 0
IsFaultOf m c (Refused e) = least (faults m c) ≡ Some (code_of e)
IsFaultOf m c OutOfMemory = Unit {0}
IsFaultOf m c e = ⊥

-- the first of commands, drawn in turn on the edges, that the map doesn't take is refused so
abbrev pub RefusesDrawing : Tables → List PlacedLine → AreaError → Type 0
RefusesDrawing m es (Refused e) = RefusesInTurn es m (code_of e)
RefusesDrawing m es OutOfMemory = Unit {0}
RefusesDrawing m es e = ⊥

-- the code of the first of the commands that the map refuses which those before it leave, if it refuses one
abbrev pub first_refusal : Tables → List Command → Option ℕ
first_refusal m [] = None
first_refusal m (c ∷ cs) = option_or (least (faults m c)) (first_refusal (after m c) cs)

-- one of the commands is the first, in turn, that the map refuses, with this refusal, or memory lacks
abbrev pub RefusesOneOf : Tables → List Command → AreaError → Type 0
RefusesOneOf m cs (Refused e) = first_refusal m cs ≡ Some (code_of e)
RefusesOneOf m cs OutOfMemory = Unit {0}
RefusesOneOf m cs e = ⊥
