-- The patches of a WAD's textures (docs/FORMAT.md, "Flats and textures").
use Rattle.std.specs.Prelude.{◌≡◌, ℕ, zero, suc, ◌+◌, ◌-◌, ◌*◌, ◌/◌, if◌then◌else◌, nat_lt, List, length, map, min, Option, None, Some, bytes_eq, codes, slice_get, ℤ, pos}
use Rattle.std.specs.List.{range_with_len}
use Rattle.std.specs.Option.{option_map_or, unwrap_or}
use Rattle.indexmap.specs.IndexMap.{IndexMap, get}
use Rattle.lump_records.specs.Fields.{signed_at, unsigned_at}
use Rattle.lump_records.specs.Records.{name_at}
use Rattle.lump_textures.specs.declared.patch.Patch.{Patch}
use Rattle.wad_file.specs.Directory.{entry, lump_count, standing}
use Rattle.wad_file.specs.Fields.{long_at}
use Rattle.wad_levels.specs.NamedLumps.{capital_name, lump_of_name}

-- ---- the widths of all patches, by their numbers

-- the number of the last of the first n entries whose name in capitals has these bytes
abbrev pub last_entry : List ℕ → List ℕ → ℕ → Option ℕ
last_entry wad name zero = None
last_entry wad name (suc n) =
    if bytes_eq (capital_name (entry wad n).name).bytes name then Some n
    else last_entry wad name n

-- how many columns a picture has: its first number, or none of bytes that have none
abbrev pub picture_width : List ℕ → ℤ
picture_width lump = if nat_lt (length lump) 2 then pos 0 else signed_at 0 lump

-- how many columns the picture has that is the last lump of the name, or none if there is no such lump
abbrev pub width_of_name : List ℕ → List ℕ → ℤ
width_of_name wad name =
    option_map_or (λ k. picture_width (standing wad k)) (last_entry wad name (lump_count wad))
    (pos 0)

-- how many names PNAMES lists: as many as its first number says, of those that stand wholly in it
abbrev pub patch_name_count : List ℕ → ℕ
patch_name_count names = min (long_at 0 names) ((length names - 4) / 8)

-- how many columns the patch with the number n has
abbrev pub width_of_number : List ℕ → List ℕ → ℕ → ℤ
width_of_number wad names n = width_of_name wad (capital_name (name_at (8 * n + 4) names)).bytes

-- the widths of the patches that a list names
abbrev pub widths_of_names : List ℕ → List ℕ → List ℤ
widths_of_names wad names =
    map (width_of_number wad names) (range_with_len 0 (patch_name_count names))

-- the widths of the patches that PNAMES names
abbrev pub patch_widths : List ℕ → List ℤ
patch_widths wad = widths_of_names wad (lump_of_name wad (codes "PNAMES"))

-- ---- the patches of one texture

-- a signed number as a count: none where it is negative
abbrev pub count_at : ℕ → List ℕ → ℕ
count_at i bytes = let n = unsigned_at i bytes in if nat_lt n 32768 then n else 0

-- how many patches has the texture at a place: as many as it says, of those that stand wholly in the lump
abbrev pub patch_count : List ℕ → ℕ → ℕ
patch_count lump at = min (count_at (at + 20) lump) ((length lump - (at + 22)) / 10)

-- how many columns the patch with the number has: none where the number has no patch
abbrev pub width_among : List ℤ → ℕ → ℤ
width_among widths number = unwrap_or (slice_get widths number) (pos 0)

-- the patch that stands at a place: where it begins, and how many columns the one with its number has
abbrev pub patch_from : List ℤ → List ℕ → ℕ → Patch
patch_from widths lump place = record {
  first = signed_at place lump;
  width = width_among widths (unsigned_at (place + 4) lump);
}

-- the n-th patch of the texture at a place
abbrev pub nth_patch : List ℤ → List ℕ → ℕ → ℕ → Patch
nth_patch widths lump at n = patch_from widths lump (at + 22 + 10 * n)

-- the patches of the texture at a place
abbrev pub patches_of : List ℤ → List ℕ → ℕ → List Patch
patches_of widths lump at =
    map (nth_patch widths lump at) (range_with_len 0 (patch_count lump at))

-- ---- the entries by their names

-- each name in capitals means the last entry that has it, of the first n
abbrev pub AreFirstEntries : List ℕ → ℕ → {S : Type 0} → IndexMap (List ℕ) ℕ S → Type 0
AreFirstEntries wad n by_name =
    (name : List ℕ) → get bytes_eq by_name name ≡ last_entry wad name n

-- each name in capitals means the last entry that has it
abbrev pub AreEntries : List ℕ → {S : Type 0} → IndexMap (List ℕ) ℕ S → Type 0
AreEntries wad by_name = AreFirstEntries wad (lump_count wad) by_name
