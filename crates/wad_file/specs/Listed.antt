-- What a list of lumps holds.
use Rattle.std.specs.Prelude.{◌≡◌, ℕ, List, length, map, All, Option}
use Rattle.std.specs.Io.KnownBytes.{Appends}
use Rattle.wad_file.specs.Lumps.{Lump, all_bytes, entry_bytes}
use Rattle.wad_file.specs.Placed.{AreContents, AtHand, Content, InSource, IsContent, Placed, placed_bytes, placed_entries}
use Rattle.wad_file.specs.declared.list.ListedContent.{ListedContent}
use Rattle.wad_file.specs.declared.list.ListedContent.TheVariants as listed
use Rattle.wad_file.specs.declared.list.ListedLump.{ListedLump}
use Rattle.wad_file.specs.declared.list.LumpList.TheInside.{Inside}

-- what a lump of the list is written of
abbrev pub listed_content : ListedContent → Content
listed_content (listed.AtHand bytes) = AtHand bytes.now
listed_content (listed.InSource at size) = InSource at size

-- the bytes of its entry
abbrev pub listed_entry : ListedLump → List ℕ
listed_entry l = entry_bytes l.entry

-- the lump
abbrev pub listed_lump : ListedLump → Placed
listed_lump l = record { name = l.entry.name; content = listed_content l.content }

-- several
abbrev pub lumps_listed : List ListedLump → List Placed
lumps_listed lumps = map listed_lump lumps

-- the name has the eight bytes of an entry's
abbrev pub IsPlaced8 : Placed → Type 0
IsPlaced8 p = length p.name.bytes ≡ 8

-- their entries are those of lumps one behind another, and together they have so many bytes
pub record AreListed (lumps : List ListedLump) (len : ℕ) : Type 0 where
  pub entries_are : map (λ l. l.entry) lumps ≡ placed_entries 12 (lumps_listed lumps)
  pub len_is : len ≡ placed_bytes (lumps_listed lumps)
  pub named : All IsPlaced8 (lumps_listed lumps)

-- the lumps that a list holds
abbrev pub list_of : Inside → List Placed
list_of a = lumps_listed a.lumps.items

-- its entries are those of lumps one behind another, and its length is that of their bytes
abbrev pub IsList : Inside → Type 0
IsList a = AreListed a.lumps.items a.len

-- a lump's bytes were written
pub record IsPut (source : Option (List ℕ)) (content : Content)
    (old new : Option (List ℕ)) : Type 0 where
  pub bytes : List ℕ
  pub are : IsContent source content bytes
  pub put : Appends old new bytes

-- the bytes of several were written, one behind another
pub record ArePut (source : Option (List ℕ)) (list : List Placed)
    (old new : Option (List ℕ)) : Type 0 where
  pub lumps : List Lump
  pub are : AreContents source list lumps
  pub put : Appends old new (all_bytes lumps)
