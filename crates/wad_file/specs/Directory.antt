-- The directory of a WAD, and the lumps of its entries (docs/FORMAT.md, "WAD files").
use Rattle.std.specs.Prelude.{ℕ, zero, suc, ◌+◌, ◌*◌, ◌≤◌, Bool, true, if◌then◌else◌, not, ◌&&◌, ◌||◌, nat_lt, nat_le, List, [], ◌∷◌, length, take, drop, Option, Some, None, codes}
use Rattle.lump_records.specs.Names.{name_text}
use Rattle.lump_records.specs.Records.{name_at}
use Rattle.wad_file.specs.Fields.{long_at, same_bytes}
use Rattle.wad_file.specs.declared.entry.Entry.{Entry}
use Rattle.wad_file.specs.declared.error.WadError.{WadError}
use Rattle.wad_file.specs.declared.error.WadError.TheVariants.{NotAWad, DirectoryOutside}

-- ---- the entries

-- how many entries the directory has
abbrev pub lump_count : List ℕ → ℕ
lump_count wad = long_at 4 wad

abbrev pub directory_at : List ℕ → ℕ
directory_at wad = long_at 8 wad

-- where the k-th entry stands
abbrev pub entry_place : List ℕ → ℕ → ℕ
entry_place wad k = directory_at wad + 16 * k

-- the k-th entry: offset, size, name
abbrev pub entry : List ℕ → ℕ → Entry
entry wad k =
    let at = entry_place wad k in
    record { at = long_at at wad; size = long_at (at + 4) wad; name = name_at (at + 8) wad }

-- the text of the k-th entry's name
abbrev pub entry_text : List ℕ → ℕ → List ℕ
entry_text wad k = name_text (entry wad k).name

-- the k-th entry's name has the text
abbrev pub entry_has_name : List ℕ → List ℕ → ℕ → Bool
entry_has_name wad name k = same_bytes (entry_text wad k) name

-- the last of the first n entries that has the name
abbrev pub last_named : List ℕ → List ℕ → ℕ → Option ℕ
last_named wad name zero = None
last_named wad name (suc n) = if entry_has_name wad name n then Some n else last_named wad name n

-- ---- their lumps

-- a lump that isn't empty ends beyond the file
abbrev pub is_outside : List ℕ → Entry → Bool
is_outside wad e = nat_lt 0 e.size && nat_lt (length wad) (e.at + e.size)

-- none of the n entries from k on is of such a lump
abbrev pub are_inside : List ℕ → ℕ → ℕ → Bool
are_inside wad k zero = true
are_inside wad k (suc n) = not (is_outside wad (entry wad k)) && are_inside wad (k + 1) n

-- the bytes of the k-th entry's lump
abbrev pub lump : List ℕ → ℕ → List ℕ
lump wad k = let e = entry wad k in take e.size (drop e.at wad)

-- the bytes of the k-th entry's lump, or none where it isn't empty and ends beyond the file
abbrev pub standing : List ℕ → ℕ → List ℕ
standing wad k = if is_outside wad (entry wad k) then [] else lump wad k

-- ---- what is no WAD

-- the bytes are the word of a WAD's kind
abbrev pub is_kind : List ℕ → Bool
is_kind kind = same_bytes kind (codes "IWAD") || same_bytes kind (codes "PWAD")

abbrev pub is_wad : List ℕ → Bool
is_wad wad = nat_le 12 (length wad) && is_kind (take 4 wad)

abbrev pub has_directory : List ℕ → Bool
has_directory wad = nat_le (entry_place wad (lump_count wad)) (length wad)

-- the bytes of a WAD whose directory stands in the file
pub record HasEntries (wad : List ℕ) : Type 0 where
  pub long : 12 ≤ length wad
  pub directory : entry_place wad (lump_count wad) ≤ length wad

-- the error of the first test that fails
abbrev pub first_failed : {E : Type 0} → List (Bool × E) → Option E
first_failed [] = None
first_failed (test ∷ tests) = if test.0 then first_failed tests else Some test.1

-- why bytes are no WAD: the first refusal that holds
abbrev pub wad_refusal : List ℕ → Option WadError
wad_refusal wad =
    first_failed ((is_wad wad, NotAWad) ∷ (has_directory wad, DirectoryOutside) ∷ [])
