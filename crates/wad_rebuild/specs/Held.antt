-- Which lumps of a WAD stand in memory, and how its lumps are written again after what became of its levels.
use Rattle.std.specs.Prelude.{◌≡◌, ℕ, ◌+◌, ◌*◌, ◌-◌, ◌<◌, ◌≤◌, Bool, false, if◌then◌else◌, ◌||◌, ◌==◌, nat_lt, List, [], ◌∷◌, ◌++◌, length, map, position, Option, None, Some}
use Rattle.std.specs.List.{range_with_len}
use Rattle.std.specs.Option.{option_map_or}
use Rattle.lump_records.specs.Names.{name_text}
use Rattle.lump_records.specs.Records.{name_at}
use Rattle.wad_file.specs.Directory.{entry, entry_text, lump, lump_count, wad_refusal}
use Rattle.wad_file.specs.Fields.{long_at, same_bytes}
use Rattle.wad_file.specs.Lumps.{Lump, lumps_in}
use Rattle.wad_file.specs.Placed.{AreContents, AtHand, Content, InSource, Placed, placed_size}
use Rattle.wad_file.specs.declared.entry.Entry.{Entry}
use Rattle.wad_levels.specs.Levels.{lump_names}
use Rattle.wad_levels.specs.declared.entries.LevelEntries.{LevelEntries}
use Rattle.wad_rebuild.specs.Parts.{HasLumps}
use Rattle.wad_rebuild.specs.Rebuilt.{ten_lumps}
use Rattle.wad_rebuild.specs.declared.held.Held.{Held}
use Rattle.wad_rebuild.specs.declared.held.Held.TheVariants.{Whole, Drawn}
use Rattle.wad_rebuild.specs.declared.levels.Fate.{Fate}
use Rattle.wad_rebuild.specs.declared.levels.Fate.TheVariants.{NotAsked, Made, Left}
use Rattle.wad_rebuild.specs.declared.levels.RebuiltLevel.{RebuiltLevel}

-- ---- what stands in memory

-- the number is that of a lump of which levels are built: what was drawn, and REJECT
abbrev pub is_drawn_number : ℕ → Bool
is_drawn_number n = nat_lt n 4 || (n == 7) || (n == 8)

-- the text is the name of such a lump
abbrev pub is_drawn_name : List ℕ → Bool
is_drawn_name text =
    option_map_or is_drawn_number
    (position (λ name. same_bytes (name_text name) text) lump_names) false

-- the k-th entry of a directory that begins with the bytes
abbrev pub entry_in : List ℕ → ℕ → Entry
entry_in directory k =
    record {
      at = long_at (16 * k) directory;
      size = long_at (16 * k + 4) directory;
      name = name_at (16 * k + 8) directory;
    }

-- the lump of an entry, where it stands in the file
abbrev pub part_of_entry : Entry → Content
part_of_entry e = InSource e.at e.size

-- the directory of the file in which those lumps stand that aren't in memory
abbrev pub directory_of : Held → Option (List ℕ)
directory_of Whole = None
directory_of (Drawn directory) = Some directory.now

-- where the k-th lump stands
abbrev pub kept_content : List ℕ → Option (List ℕ) → ℕ → Content
kept_content wad None k = AtHand (lump wad k)
kept_content wad (Some directory) k =
    if is_drawn_name (entry_text wad k)
    then AtHand (lump wad k) else part_of_entry (entry_in directory k)

-- the k-th lump, as it is written again
abbrev pub kept_at : List ℕ → Option (List ℕ) → ℕ → Placed
kept_at wad held k = record { name = (entry wad k).name; content = kept_content wad held k }

-- the lumps of the entries from one on up to another, which isn't among them
abbrev pub kept_between : List ℕ → Option (List ℕ) → ℕ → ℕ → List Placed
kept_between wad held from end = map (kept_at wad held) (range_with_len from (end - from))

-- all lumps of the WAD
abbrev pub kept_lumps : List ℕ → Option (List ℕ) → List Placed
kept_lumps wad held = kept_between wad held 0 (lump_count wad)

-- each lump that doesn't stand in memory has an entry in the directory of the file
abbrev pub HasDirectory : List ℕ → Option (List ℕ) → Type 0
HasDirectory wad None = Unit {0}
HasDirectory wad (Some directory) = 16 * lump_count wad ≤ length directory

-- ---- what is written

abbrev pub at_hand : Lump → Placed
at_hand l = record { name = l.name; content = AtHand l.bytes }

-- in place of a level's lumps: those of one that isn't built anew stay
abbrev pub placed_after : List ℕ → Option (List ℕ) → LevelEntries → Fate → List Placed
placed_after wad held l (Made m) = kept_at wad held l.marker ∷ map at_hand (ten_lumps wad l m)
placed_after wad held l NotAsked = kept_between wad held l.marker l.gl_end
placed_after wad held l (Left c) = kept_between wad held l.marker l.gl_end

-- from the k-th entry on up to a level, and in place of the level's lumps
abbrev pub placed_up_to : List ℕ → Option (List ℕ) → ℕ → RebuiltLevel → List Placed
placed_up_to wad held k l =
    kept_between wad held k l.entries.marker ++ placed_after wad held l.entries l.fate

-- from the k-th entry on
abbrev pub placed_from : List ℕ → Option (List ℕ) → ℕ → List RebuiltLevel → List Placed
placed_from wad held k [] = kept_between wad held k (lump_count wad)
placed_from wad held k (l ∷ levels) =
    kept_between wad held k l.entries.marker
    ++ (placed_after wad held l.entries l.fate
    ++ placed_from wad held l.entries.gl_end levels)

-- all of it
abbrev pub placed_lumps : List ℕ → Option (List ℕ) → List RebuiltLevel → List Placed
placed_lumps wad held levels = placed_from wad held 0 levels

-- ---- the WAD in the file

-- a WAD in memory stands for one in a file of so many bytes: that file has room for all its lumps
pub record StandsInFor (wad : List ℕ) (held : Option (List ℕ)) (len : ℕ) : Type 0 where
  pub accepted : wad_refusal wad ≡ None
  pub lumps : HasLumps wad
  pub directory : HasDirectory wad held
  pub fits : placed_size (kept_lumps wad held) ≤ len
  pub short : len < 4294967296

-- all lumps stand in memory, so the file has the bytes of the WAD; or it stands for one in a file
abbrev pub IsGiven : List ℕ → Option (List ℕ) → ℕ → Type 0
IsGiven wad None len = len ≡ length wad
IsGiven wad (Some directory) len = StandsInFor wad (Some directory) len

-- the whole WAD: it has so many bytes, and the lumps in memory, and any others are as long as the
-- directory says
abbrev pub IsWholeOf : List ℕ → Option (List ℕ) → ℕ → List ℕ → Type 0
IsWholeOf wad None len whole = whole ≡ wad
IsWholeOf wad (Some directory) len whole =
    (length whole ≡ len) × AreContents None (kept_lumps wad (Some directory)) (lumps_in whole)
