-- Names in capitals, and the lumps that have a name.
use Rattle.std.specs.Prelude.{ℕ, Bool, true, not, List, [], map}
use Rattle.std.specs.Char.{to_ascii_uppercase}
use Rattle.std.specs.Option.{option_map_or}
use Rattle.lump_records.specs.Names.{name_of, name_text}
use Rattle.lump_records.specs.declared.records.Name8.{Name8}
use Rattle.wad_levels.specs.Levels.{marker}
use Rattle.wad_file.specs.Directory.{entry, is_outside, standing}

-- a name in capitals, with NUL behind its text
abbrev pub capital_name : Name8 → Name8
capital_name name = record { bytes = map to_ascii_uppercase (name_of (name_text name)).bytes }

-- the last lump of the name, if there is one, stands in the file
abbrev pub stands_inside : List ℕ → List ℕ → Bool
stands_inside wad name =
    option_map_or (λ k. not (is_outside wad (entry wad k))) (marker wad name) true

-- the bytes of the last lump of the name, or none
abbrev pub lump_of_name : List ℕ → List ℕ → List ℕ
lump_of_name wad name = option_map_or (standing wad) (marker wad name) []
