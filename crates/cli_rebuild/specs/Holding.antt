-- What is held in memory of a WAD in a file.
use Rattle.std.specs.Prelude.{◌≡◌, ℕ, zero, suc, ◌+◌, ◌<◌, true, List, [], ◌∷◌, length, get_or}
use Rattle.lump_records.specs.Names.{name_text}
use Rattle.wad_file.specs.Drafts.{Draft, Puts, Takes}
use Rattle.wad_file.specs.Lumps.{IsWadOf, Lump}
use Rattle.wad_file.specs.declared.entry.Entry.{Entry}
use Rattle.wad_rebuild.specs.Held.{entry_in, is_drawn_name}

-- how many bytes the first n entries of a directory give their lumps
abbrev pub sizes_in : List ℕ → ℕ → ℕ
sizes_in directory zero = 0
sizes_in directory (suc n) = sizes_in directory n + (entry_in directory n).size

-- a lump that is held is as long as its entry says
abbrev pub IsHeldPart : Entry → List ℕ → Type 0
IsHeldPart e part = is_drawn_name (name_text e.name) ≡ true → length part ≡ e.size

-- the lump of an entry: it has its name
pub record IsHeldLump (e : Entry) (l : Lump) : Type 0 where
  pub name : l.name ≡ e.name
  pub part : IsHeldPart e l.bytes

-- it is appended, and the WAD has fewer than four gigabytes
pub record AddsHeld (e : Entry) (old new : Draft) : Type 0 where
  pub lump : Lump
  pub is : IsHeldLump e lump
  pub put : Puts old new (lump ∷ [])
  pub takes : Takes new []

-- the lumps of the first n entries of a directory
pub record AreHeldIn (directory : List ℕ) (n : ℕ) (lumps : List Lump) : Type 0 where
  pub count : length lumps ≡ n
  pub each : (k : ℕ) (d : Lump) → k < n → IsHeldLump (entry_in directory k) (get_or lumps k d)

-- the bytes are a WAD of a kind with these lumps
pub record IsHeldFrom (kind directory : List ℕ) (n : ℕ) (wad : List ℕ) : Type 0 where
  pub lumps : List Lump
  pub are : AreHeldIn directory n lumps
  pub wad_is : IsWadOf kind lumps wad
