-- What a line of a shape does: it is decided as a whole over the maps as they are, room is made for its
-- commands, and then they are done in turn (docs/COMMANDS.md, "Shapes").
use Rattle.std.specs.Prelude.{◌≡◌, ◌⊎◌, ℕ, ◌+◌, Bool, true, false, nat_le, List, [], ◌∷◌, ◌++◌, map, None, Some, Result, Ok, Err}
use Rattle.std.specs.List.{sum_by}
use Rattle.map_commands.specs.ProjectCommands.{project_spelling}
use Rattle.map_commands.specs.Step.{growth_of, need_of}
use Rattle.map_commands.specs.declared.command.Command.{Command}
use Rattle.map_commands.specs.declared.project.command.ProjectCommand.TheVariants.{Current}
use Rattle.map_shapes.specs.Commands.{IsDecided, RefusesDecision}
use Rattle.map_tables.specs.Projects.{ProjectMaps, body_len, current_map}
use Rattle.run_canvas.specs.declared.canvas.Canvas.{Ghosts}

-- a command of the current map as a line
abbrev pub command_line : Command → List ℕ
command_line c = project_spelling (Current c)

-- commands of the current map as lines
abbrev pub command_lines : List Command → List (List ℕ)
command_lines commands = map command_line commands

-- by how many bytes commands lengthen a body
abbrev pub growth_of_all : List Command → ℕ
growth_of_all commands = sum_by (λ c. growth_of (need_of c)) commands

-- whether a body that may be so long has room for what commands add
abbrev pub has_room : ProjectMaps → ℕ → List Command → Bool
has_room p cap commands = nat_le (body_len p + growth_of_all commands) cap

-- commands were done in turn, each accepted; these are their lines
abbrev pub DoesAll : {S : Type 0} → Ghosts S → List (List ℕ) → S → S → Type 0
DoesAll facts [] old new = new ≡ old
DoesAll {S = S} facts (line ∷ lines) old new =
    (mid : S) × ((number : ℕ) × facts.changes old line (Ok number) mid)
    × DoesAll facts lines mid new

-- commands were done in turn up to one that was refused with this code
abbrev pub StopsAmong : {S : Type 0} → Ghosts S → List (List ℕ) → S → ℕ → S → Type 0
StopsAmong {S = S} facts lines old code new =
    (mid : S) × (front : List (List ℕ)) × (line : List ℕ) × (back : List (List ℕ))
    × (lines ≡ front ++ line ∷ back) × DoesAll facts front old mid
    × facts.changes mid line (Err code) new

-- how commands ended that were to be done in turn
abbrev pub EndsAll : {S X : Type 0} → Ghosts S → List (List ℕ) → S → Result X ℕ → S → Type 0
EndsAll facts lines old (Ok x) new = DoesAll facts lines old new
EndsAll facts lines old (Err code) new = StopsAmong facts lines old code new

-- the line becomes these commands, for which there is room, and answers this number
abbrev pub IsPlanned : ProjectMaps → ℕ → List ℕ → List Command → ℕ → Type 0
IsPlanned p cap line commands answer =
    IsDecided (current_map p) line commands answer × (has_room p cap commands ≡ true)

-- the line is refused as a whole: by itself or the map, or with 14 because there is no room
abbrev pub RefusesWhole : ProjectMaps → ℕ → List ℕ → ℕ → Type 0
RefusesWhole p cap line code =
    RefusesDecision (current_map p) line code
    ⊎ ((code ≡ 14) × (commands : List Command) × (answer : ℕ)
    × IsDecided (current_map p) line commands answer × (has_room p cap commands ≡ false))

-- how a line of a shape ended: room was made for its commands, and they were done; or it was refused
-- as a whole, and nothing changed; or room was refused; or some of its commands were done before one
-- was refused
abbrev pub DrawsShape : {S : Type 0} → Ghosts S → List ℕ → S → Result ℕ ℕ → S → Type 0
DrawsShape {S = S} facts line old (Ok answer) new =
    (commands : List Command)
    × IsPlanned (facts.maps_in old) (facts.cap_in old) line commands answer
    × (mid : S) × facts.makes_room old (command_lines commands) None mid
    × DoesAll facts (command_lines commands) mid new
DrawsShape {S = S} facts line old (Err code) new =
    (RefusesWhole (facts.maps_in old) (facts.cap_in old) line code × (new ≡ old))
    ⊎ ((commands : List Command) × (answer : ℕ)
    × IsPlanned (facts.maps_in old) (facts.cap_in old) line commands answer
    × (facts.makes_room old (command_lines commands) (Some code) new
    ⊎ ((mid : S) × facts.makes_room old (command_lines commands) None mid
    × StopsAmong facts (command_lines commands) mid code new)))
