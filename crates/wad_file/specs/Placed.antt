-- The lumps of a WAD that is to be written: each is at hand, or stands at a place in a source.
use Rattle.std.specs.Prelude.{◌≡◌, ℕ, ◌+◌, ◌*◌, List, [], ◌∷◌, ◌++◌, length, map, flat_map, take, drop, Option, None, Some}
use Rattle.std.specs.Io.KnownBytes.{Appends}
use Rattle.lump_records.specs.declared.records.Name8.{Name8}
use Rattle.wad_file.specs.Lumps.{IsWadOf, Lump, entry_bytes, long, wad_of}
use Rattle.wad_file.specs.declared.entry.Entry.{Entry}

-- ---- what a source gives

-- these bytes are the ones at a place, where those of the source are known
abbrev pub IsPartAt : Option (List ℕ) → ℕ → List ℕ → Type 0
IsPartAt None at part = Unit {0}
IsPartAt (Some source) at part = part ≡ take (length part) (drop at source)

-- so many bytes, those at a place of a source, were written
pub record IsCopied (source : Option (List ℕ)) (at len : ℕ)
    (old new : Option (List ℕ)) : Type 0 where
  pub part : List ℕ
  pub long : length part ≡ len
  pub is_part : IsPartAt source at part
  pub put : Appends old new part

-- ---- lumps

-- what a lump is written of: these bytes, or so many at a place in a source
pub data Content : Type 0 where
  AtHand : List ℕ → Content
  InSource : ℕ → ℕ → Content

-- a lump that is to be written
pub record Placed : Type 0 where
  pub name : Name8
  pub content : Content

-- a lump of so many bytes, wherever they come from
abbrev pub sized : Name8 → ℕ → Placed
sized name size = record { name = name; content = InSource 0 size }

-- how many bytes it has
abbrev pub content_size : Content → ℕ
content_size (AtHand bytes) = length bytes
content_size (InSource at size) = size

-- how many bytes several have
abbrev pub placed_bytes : List Placed → ℕ
placed_bytes [] = 0
placed_bytes (p ∷ ps) = content_size p.content + placed_bytes ps

-- the number of bytes of a WAD of these lumps
abbrev pub placed_size : List Placed → ℕ
placed_size ps = 12 + placed_bytes ps + 16 * length ps

-- their entries, if they follow one another from an offset on
abbrev pub placed_entries : ℕ → List Placed → List Entry
placed_entries at [] = []
placed_entries at (p ∷ ps) =
    record { at = at; size = content_size p.content; name = p.name }
    ∷ placed_entries (at + content_size p.content) ps

-- the header of a WAD of a kind with them
abbrev pub placed_head : List ℕ → List Placed → List ℕ
placed_head kind ps = kind ++ (long (length ps) ++ long (12 + placed_bytes ps))

-- its directory
abbrev pub placed_directory : List Placed → List ℕ
placed_directory ps = flat_map entry_bytes (placed_entries 12 ps)

-- ---- what they become

-- the bytes are those of a lump, as far as what its source holds is known
abbrev pub IsContent : Option (List ℕ) → Content → List ℕ → Type 0
IsContent source (AtHand bytes) b = b ≡ bytes
IsContent source (InSource at size) b = (length b ≡ size) × IsPartAt source at b

-- the lumps are those of the list, one by one
abbrev pub AreContents : Option (List ℕ) → List Placed → List Lump → Type 0
AreContents source [] [] = Unit {0}
AreContents source [] (l ∷ ls) = ⊥
AreContents source (p ∷ ps) [] = ⊥
AreContents source (p ∷ ps) (l ∷ ls) =
    (l.name ≡ p.name) × IsContent source p.content l.bytes × AreContents source ps ls

-- what a lump becomes if these bytes are its source
abbrev pub content_over : List ℕ → Content → List ℕ
content_over source (AtHand bytes) = bytes
content_over source (InSource at size) = take size (drop at source)

abbrev pub lump_over : List ℕ → Placed → Lump
lump_over source p = record { name = p.name; bytes = content_over source p.content }

-- what several become
abbrev pub lumps_over : List ℕ → List Placed → List Lump
lumps_over source ps = map (lump_over source) ps

-- the WAD of a kind with the lumps of the list was written, and each reads back
pub record IsListWritten (source : Option (List ℕ)) (kind : List ℕ) (list : List Placed)
    (old new : Option (List ℕ)) : Type 0 where
  pub lumps : List Lump
  pub are : AreContents source list lumps
  pub put : Appends old new (wad_of kind lumps)
  pub reads : IsWadOf kind lumps (wad_of kind lumps)
  pub long : length (wad_of kind lumps) ≡ placed_size list
