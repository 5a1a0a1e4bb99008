-- The bytes of a WAD with these lumps: header, lumps, directory (docs/FORMAT.md, "Writing").
use Rattle.std.specs.Prelude.{◌≡◌, ℕ, ◌+◌, ◌*◌, ◌-◌, true, List, [], ◌∷◌, ◌++◌, length, map, take, flat_map, None}
use Rattle.std.specs.Int.{w32, to_le_bytes}
use Rattle.std.specs.List.{range_with_len}
use Rattle.lump_records.specs.declared.records.Name8.{Name8}
use Rattle.wad_file.specs.Directory.{are_inside, entry, lump, lump_count, wad_refusal}
use Rattle.wad_file.specs.declared.entry.Entry.{Entry}

-- a lump and its name
pub record Lump : Type 0 where
  pub name : Name8
  pub bytes : List ℕ

-- ---- read

-- the lump of the k-th entry: its name and its bytes
abbrev pub lump_at : List ℕ → ℕ → Lump
lump_at wad k = record { name = (entry wad k).name; bytes = lump wad k }

-- the lumps of the entries from one on up to another, which isn't among them
abbrev pub lumps_between : List ℕ → ℕ → ℕ → List Lump
lumps_between wad from end = map (lump_at wad) (range_with_len from (end - from))

-- all lumps of a WAD, in the order of its directory
abbrev pub lumps_in : List ℕ → List Lump
lumps_in wad = lumps_between wad 0 (lump_count wad)

-- the bytes are a WAD of a kind, IWAD or PWAD, with these lumps, each of which stands in it
pub record IsWadOf (kind : List ℕ) (lumps : List Lump) (wad : List ℕ) : Type 0 where
  pub accepted : wad_refusal wad ≡ None
  pub kind_is : take 4 wad ≡ kind
  pub lumps_are : lumps_in wad ≡ lumps
  pub inside : are_inside wad 0 (lump_count wad) ≡ true

-- ---- written

-- a 32-bit number, the lowest byte first
abbrev pub long : ℕ → List ℕ
long n = to_le_bytes w32 n

abbrev pub entry_bytes : Entry → List ℕ
entry_bytes e = long e.at ++ long e.size ++ e.name.bytes

-- the entries of lumps that follow one another from an offset on
abbrev pub entries_from : ℕ → List Lump → List Entry
entries_from at [] = []
entries_from at (l ∷ lumps) =
    record { at = at; size = length l.bytes; name = l.name }
    ∷ entries_from (at + length l.bytes) lumps

abbrev pub all_bytes : List Lump → List ℕ
all_bytes lumps = flat_map (λ l. l.bytes) lumps

-- the header: the kind, the number of lumps, and where the directory stands behind them
abbrev pub wad_head : List ℕ → List Lump → List ℕ
wad_head kind lumps = kind ++ (long (length lumps) ++ long (12 + length (all_bytes lumps)))

-- the WAD of a kind with these lumps
abbrev pub wad_of : List ℕ → List Lump → List ℕ
wad_of kind lumps =
    wad_head kind lumps ++ (all_bytes lumps ++ flat_map entry_bytes (entries_from 12 lumps))

-- the number of bytes of a WAD of these lumps
abbrev pub wad_size : List Lump → ℕ
wad_size lumps = 12 + length (all_bytes lumps) + 16 * length lumps

-- the name has the eight bytes of an entry's
abbrev pub IsNamed8 : Lump → Type 0
IsNamed8 l = length l.name.bytes ≡ 8
