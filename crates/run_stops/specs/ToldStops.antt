-- What is told of the lines of a script that are refused, one after the other (docs/COMMANDS.md,
-- "Scripts").
use Rattle.std.specs.Prelude.{◌≡◌, ◌≤◌, ℕ, false, not, List, [], ◌∷◌, ◌++◌, Option, Some, None, Ok, IfSome, filter, flat_map, get_or, is_some, length, slice_get, unwrap_or}
use Rattle.std.specs.List.{remove}
use Rattle.map_blocks.specs.Hanging.{hangs}
use Rattle.map_blocks.specs.declared.stop.Stop.{Stop}
use Rattle.run_canvas.specs.Canvases.{Drafted, draft_canvas}
use Rattle.run_script.specs.Drawn.{IsScriptDrawn}
use Rattle.run_reasons.specs.Refused.{TellsStop, blocks_text}

-- ---- One line

-- these bytes tell which line of a file was refused, and why, and the blocks that were open
abbrev pub IsStopTold : List ℕ → ℕ × List ℕ → ℕ → List ℕ → List ℕ → Type 0
IsStopTold file line code blocks told =
    TellsStop {U = Unit {0}} (Ok tt) file line code blocks (Some []) (Some told)

-- these bytes tell so of the line at a stop, among lines that stand in these files
abbrev pub IsToldAmong : List (ℕ × List ℕ) → List (List ℕ) → Stop → List ℕ → Type 0
IsToldAmong lines files stop told =
    (line : ℕ × List ℕ) × (file : List ℕ) × (slice_get lines stop.place ≡ Some line)
    × (slice_get files stop.place ≡ Some file)
    × IsStopTold file line stop.code (blocks_text lines files stop.«open».items) told

-- these lines, drawn from maps in memory on, are drawn up to this stop
abbrev pub StopsAt : Drafted → List (ℕ × List ℕ) → Stop → Type 0
StopsAt first lines stop =
    (last : Drafted) × (answers : Option (List ℕ))
    × IsScriptDrawn draft_canvas false lines (Ok (Some stop)) first None last answers

-- ---- One after the other

-- the lines that were left out, and one more, at a place of a script
abbrev pub with_left_out : List (ℕ × List ℕ) → List (ℕ × List ℕ) → ℕ → List (ℕ × List ℕ)
with_left_out out lines place = out ++ get_or lines place (0, []) ∷ []

-- Of the lines at which a script stops, one after the other, this was told: nothing of one that hangs
-- on those that were left out, and something of each other. Each time it is drawn from the same maps
-- on, without the lines at which it stopped before.
abbrev pub AreToldFrom : Drafted → List (ℕ × List ℕ) → List (List ℕ) → List (ℕ × List ℕ)
    → List (Option (List ℕ)) → Type 0
AreToldFrom first lines files out [] = Unit {0}
AreToldFrom first lines files out (told ∷ more) =
    (stop : Stop) × StopsAt first lines stop × (is_some told ≡ not (hangs lines out stop))
    × IfSome told (IsToldAmong lines files stop)
    × AreToldFrom first (remove lines stop.place) (remove files stop.place)
    (with_left_out out lines stop.place) more

-- all that was told of them
abbrev pub told_text : List (Option (List ℕ)) → List ℕ
told_text tolds = flat_map (λ told. unwrap_or told []) tolds

-- of how many of them something was told
abbrev pub told_count : List (Option (List ℕ)) → ℕ
told_count tolds = length (filter is_some tolds)

-- this was told of the stops of a script without these lines, of so many of them at most
abbrev pub AreStopsTold : ℕ → Drafted → List (ℕ × List ℕ) → List (List ℕ) → List (ℕ × List ℕ)
    → List ℕ → Type 0
AreStopsTold most first lines files out text =
    (tolds : List (Option (List ℕ))) × AreToldFrom first lines files out tolds
    × (text ≡ told_text tolds) × (told_count tolds ≤ most)

-- the same of those behind one stop: 20 are told with it
abbrev pub AreFurtherTold : Drafted → List (ℕ × List ℕ) → List (List ℕ) → Stop → List ℕ → Type 0
AreFurtherTold first lines files stop text =
    AreStopsTold 19 first (remove lines stop.place) (remove files stop.place)
    (with_left_out [] lines stop.place) text
