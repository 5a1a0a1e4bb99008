-- The texts of answers (docs/COMMANDS.md, "Answers and queries").
use Rattle.std.specs.Prelude.{ℕ, ◌+◌, ◌/◌, ◌%◌, nat_lt, if◌then◌else◌, List, [], ◌∷◌, ◌++◌, length, map, flat_map, Result, Ok, Err, codes, decimal}
use Rattle.std.specs.List.{join_with_byte}
use Rattle.lump_records.specs.Names.{name_text}
use Rattle.lump_text.specs.Texts.{joined}
use Rattle.map_tables.specs.Projects.{ProjectMaps}
use Rattle.map_tables.specs.Tables.{Tables}
use Rattle.map_checks.specs.declared.finding.Finding.{Finding}
use Rattle.map_checks.specs.Texts.{finding_text}

-- `ok N`
abbrev pub accepted_text : ℕ → List ℕ
accepted_text n = codes "ok " ++ decimal n ++ 10 ∷ []

-- `no CODE`
abbrev pub refused_text : ℕ → List ℕ
refused_text code = codes "no " ++ decimal code ++ 10 ∷ []

-- an outcome, which is a number or a code, as a line
abbrev pub outcome_text : Result ℕ ℕ → List ℕ
outcome_text (Ok n) = accepted_text n
outcome_text (Err code) = refused_text code

-- the digit for a value from 0 to 15, in lower case
abbrev pub hex_digit : ℕ → ℕ
hex_digit n = if nat_lt n 10 then 48 + n else 87 + n

-- two digits for a byte
abbrev pub hex_byte : ℕ → List ℕ
hex_byte b = hex_digit (b / 16) ∷ hex_digit (b % 16) ∷ []

-- a space, then the two digits of a byte
abbrev pub spaced_byte : ℕ → List ℕ
spaced_byte b = 32 ∷ hex_byte b

-- two digits for each byte with spaces between them; `-` for no byte
abbrev pub hex_digits : List ℕ → List ℕ
hex_digits [] = codes "-"
hex_digits (b ∷ bs) = join_with_byte 32 (map hex_byte (b ∷ bs))

-- these digits as a line
abbrev pub hex_text : List ℕ → List ℕ
hex_text bytes = hex_digits bytes ++ 10 ∷ []

-- these counts of the items of each kind
abbrev pub counts_text : ℕ → ℕ → ℕ → ℕ → ℕ → List ℕ
counts_text vertices sectors sides lines things =
    joined
    (codes "vertices " ∷ decimal vertices ∷ codes " sectors " ∷ decimal sectors ∷ codes " sides "
    ∷ decimal sides ∷ codes " lines " ∷ decimal lines ∷ codes " things " ∷ decimal things
    ∷ codes "\n" ∷ [])

-- how many items there are of each kind
abbrev pub count_text : Tables → List ℕ
count_text m =
    counts_text (length m.vertices) (length m.sectors) (length m.sides) (length m.lines)
    (length m.things)

-- `I NAME`
abbrev pub map_line : ℕ → Tables → List ℕ
map_line n m = (decimal n ++ codes " ") ++ (name_text m.name ++ 10 ∷ [])

-- a line for each map, with numbers from n on
abbrev pub map_lines : ℕ → List Tables → List ℕ
map_lines n [] = []
map_lines n (m ∷ ms) = map_line n m ++ map_lines (n + 1) ms

-- `current I`
abbrev pub current_text : ℕ → List ℕ
current_text n = codes "current " ++ decimal n ++ 10 ∷ []

-- a line for each map, and the number of the current one
abbrev pub maps_text : ProjectMaps → List ℕ
maps_text p = map_lines 0 p.maps ++ current_text p.current

-- a finding as a line
abbrev pub finding_line : Finding → List ℕ
finding_line finding = finding_text finding ++ 10 ∷ []

-- `findings N`
abbrev pub total_text : ℕ → List ℕ
total_text n = codes "findings " ++ decimal n ++ 10 ∷ []

-- a line for each finding, and their number
abbrev pub findings_text : List Finding → List ℕ
findings_text found = flat_map finding_line found ++ total_text (length found)
