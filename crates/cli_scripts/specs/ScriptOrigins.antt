-- What is written of where an item of a script's maps comes from: the place of the line that added
-- it, and the name that this line gives (docs/COMMANDS.md, "Scripts in place of a project").
use Rattle.std.specs.Prelude.{◌≡◌, ℕ, List, [], ◌++◌, Option, Some, None, codes, decimal, get_or, length, option_map, slice_get, unwrap_or}
use Rattle.std.specs.List.{position_or_len}
use Rattle.map_script.specs.Lines.{name_in}
use Rattle.map_script.specs.Words.{text_words}
use Rattle.map_tables.specs.declared.kind.Kind.{Kind}
use Rattle.run_canvas.specs.Origins.{OriginMaps, origin_of}
use Rattle.cli_print.specs.Called.{is_called}
use Rattle.cli_scripts.specs.declared.script_origin.ScriptOrigin.TheInside.{Inside}

-- a script that was drawn whole: its lines, the file of each, and the maps that it drew
pub record DrawnScript : Type 0 where
  pub lines : List (ℕ × List ℕ)
  pub files : List (List ℕ)
  pub last : OriginMaps

-- what a contract sees of one
abbrev pub drawn_script : Inside → DrawnScript
drawn_script s = record {
  lines = s.script.now.lines;
  files = s.script.now.files;
  last = s.draft.now;
}

-- each line has a file
abbrev pub HasEachFile : Inside → Type 0
HasEachFile s = length s.script.now.files ≡ length s.script.now.lines

-- ` FILE:NUMBER` of a line
abbrev pub standing_text : List ℕ → ℕ → List ℕ
standing_text file number = codes " " ++ file ++ codes ":" ++ decimal number

-- ` NAME` of a line that gives this name, if it gives one
abbrev pub given_text : Option (List ℕ) → List ℕ
given_text None = []
given_text (Some name) = codes " " ++ name

-- ` FILE:NUMBER` of a line in a file, or ` FILE:NUMBER NAME` where it gives a name
abbrev pub line_origin : List ℕ → ℕ × List ℕ → List ℕ
line_origin file line = standing_text file line.0 ++ given_text (name_in (text_words line.1))

-- the same of the line at a place, among lines that stand in these files; nothing where there is none
abbrev pub origin_text : List (ℕ × List ℕ) → List (List ℕ) → Option ℕ → List ℕ
origin_text lines files None = []
origin_text lines files (Some place) =
    unwrap_or (option_map (line_origin (get_or files place [])) (slice_get lines place)) []

-- the same of the line that added the item of a kind and a number in the map with the name
abbrev pub script_origin : List (ℕ × List ℕ) → List (List ℕ) → OriginMaps → List ℕ → Kind → ℕ
    → List ℕ
script_origin lines files last name kind n =
    origin_text lines files
    (origin_of last.origins (position_or_len (is_called name) last.draft.maps.maps) kind n)
