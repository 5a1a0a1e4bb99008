-- The levels that a WAD's bytes hold, by the names of their markers (docs/FORMAT.md, "WAD files").
use Rattle.std.specs.Prelude.{◌≡◌, ℕ, ◌+◌, Bool, ◌&&◌, nat_lt, List, [], ◌∷◌, map, filter, Option, Some, codes}
use Rattle.std.specs.List.{range_with_len}
use Rattle.std.specs.Option.{option_map}
use Rattle.lump_records.specs.declared.records.Name8.{Name8}
use Rattle.wad_file.specs.declared.error.WadError.{WadError}
use Rattle.wad_file.specs.declared.error.WadError.TheVariants as bytes
use Rattle.wad_levels.specs.declared.error.ReadError.{ReadError}
use Rattle.wad_levels.specs.declared.error.ReadError.TheVariants.{NotAWad, DirectoryOutside, OutOfMemory}
use Rattle.wad_file.specs.Directory.{entry, entry_has_name, lump_count, wad_refusal}

-- THINGS follows the k-th entry, so that it is a level's marker
abbrev pub is_level_marker : List ℕ → ℕ → Bool
is_level_marker wad k = nat_lt (k + 1) (lump_count wad)
    && entry_has_name wad (codes "THINGS") (k + 1)

-- the name of the k-th entry
abbrev pub entry_name : List ℕ → ℕ → Name8
entry_name wad k = (entry wad k).name

-- the names of all markers, in the order of the directory
abbrev pub level_names : List ℕ → List Name8
level_names wad =
    map (entry_name wad) (filter (is_level_marker wad) (range_with_len 0 (lump_count wad)))

-- the refusal of bytes that are no WAD
abbrev pub not_listed : WadError → ReadError
not_listed bytes.NotAWad = NotAWad
not_listed bytes.DirectoryOutside = DirectoryOutside

-- the first refusal that holds of bytes whose levels are to be listed
abbrev pub listing_refusal : List ℕ → Option ReadError
listing_refusal wad = option_map not_listed (wad_refusal wad)

-- that refusal, or lack of memory
abbrev pub RefusesListing : List ℕ → ReadError → Type 0
RefusesListing wad OutOfMemory = Unit {0}
RefusesListing wad e = listing_refusal wad ≡ Some e
