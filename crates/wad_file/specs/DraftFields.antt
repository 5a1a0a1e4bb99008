-- What a writer holds of a WAD that is written lump by lump.
use Rattle.std.specs.Prelude.{◌≡◌, ℕ, ◌+◌, ◌≤◌, List, ◌++◌, length, map, take, drop, All}
use Rattle.wad_file.specs.Drafts.{Draft}
use Rattle.wad_file.specs.Lumps.{IsNamed8, Lump, all_bytes, entries_from}
use Rattle.wad_file.specs.declared.entry.Entry.{Entry}
use Rattle.wad_file.specs.declared.writer.WadWriter.TheInside.{Inside}

-- the lump of an entry
abbrev pub lump_in : List ℕ → Entry → Lump
lump_in bytes e = record { name = e.name; bytes = take e.size (drop e.at bytes) }

-- the lumps of the entries, and the bytes from a place on
abbrev pub draft_in : List ℕ → List Entry → ℕ → Draft
draft_in bytes entries at =
    record { lumps = map (lump_in bytes) entries; begun = drop at bytes }

-- the bytes are a header's twelve, the lumps one behind another, and those of the lump that is
-- begun at this place
pub record IsLaid (bytes : List ℕ) (entries : List Entry) (at : ℕ) (d : Draft) : Type 0 where
  pub long : 12 ≤ length bytes
  pub bytes_are : drop 12 bytes ≡ all_bytes d.lumps ++ d.begun
  pub entries_are : entries ≡ entries_from 12 d.lumps
  pub at_is : at ≡ 12 + length (all_bytes d.lumps)
  pub named : All IsNamed8 d.lumps

-- what a writer's fields hold
abbrev pub draft_of : Inside → Draft
draft_of a = draft_in a.bytes.items a.entries.items a.at

-- its entries are those of lumps that stand one behind another
abbrev pub IsDraft : Inside → Type 0
IsDraft a = IsLaid a.bytes.items a.entries.items a.at (draft_of a)
