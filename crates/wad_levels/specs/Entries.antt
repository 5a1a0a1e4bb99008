-- Where the levels of any WAD stand in its directory (docs/FORMAT.md, "Levels of other WADs").
use Rattle.std.specs.Prelude.{◌≡◌, ℕ, ◌+◌, ◌-◌, ◌<◌, ◌≤◌, Bool, true, false, if◌then◌else◌, not, ◌&&◌, ◌||◌, ◌==◌, nat_lt, min, List, [], ◌∷◌, map, filter, find, position, take, drop, Option, unwrap_or, All, codes}
use Rattle.std.specs.List.{list_any, range_with_len}
use Rattle.lump_records.specs.Names.{name_of, name_text}
use Rattle.lump_records.specs.declared.records.Name8.{Name8}
use Rattle.wad_levels.specs.declared.entries.LevelEntries.{LevelEntries}
use Rattle.wad_levels.specs.declared.entries.LevelForm.{LevelForm}
use Rattle.wad_levels.specs.declared.entries.LevelForm.TheVariants.{Doom, Hexen, Udmf}
use Rattle.wad_levels.specs.Levels.{lump_names}
use Rattle.wad_file.specs.Directory.{entry, entry_has_name, entry_text, lump_count}
use Rattle.wad_file.specs.Fields.{same_bytes}
use Rattle.wad_levels.specs.Listing.{is_level_marker}

-- TEXTMAP follows the k-th entry
unfoldable pub is_udmf : List ℕ → ℕ → Bool
is_udmf wad k = nat_lt (k + 1) (lump_count wad) && entry_has_name wad (codes "TEXTMAP") (k + 1)

-- the k-th entry is the marker of a level
unfoldable pub is_level : List ℕ → ℕ → Bool
is_level wad k = is_level_marker wad k || is_udmf wad k

-- the number of a text among the names of a level's lumps, or 10 where it is none of them
unfoldable pub rank_of_name : List ℕ → ℕ
rank_of_name text = unwrap_or (position (λ name. same_bytes (name_text name) text) lump_names) 10

-- the number of the k-th entry's name among them
abbrev pub rank : List ℕ → ℕ → ℕ
rank wad k = rank_of_name (entry_text wad k)

-- the k-th entry is the first one behind the marker, or its name comes later in a level's order
-- than that of the entry before it
unfoldable pub comes_later : List ℕ → ℕ → ℕ → Bool
comes_later wad marker k = (k == (marker + 1)) || nat_lt (rank wad (k - 1)) (rank wad k)

-- the k-th entry goes on the lumps of the level with this marker: it is itself no marker, has the
-- name of a level's lump, and comes later
unfoldable pub goes_on : List ℕ → ℕ → ℕ → Bool
goes_on wad marker k = not (is_level wad k) && nat_lt (rank wad k) 10 && comes_later wad marker k

-- the names of the lumps with another builder's nodes
abbrev pub gl_names : List Name8
gl_names =
    name_of (codes "GL_VERT") ∷ name_of (codes "GL_SEGS") ∷ name_of (codes "GL_SSECT")
    ∷ name_of (codes "GL_NODES") ∷ name_of (codes "GL_PVS") ∷ []

-- the text is one of these
unfoldable pub is_gl_name : List ℕ → Bool
is_gl_name text = list_any (λ name. same_bytes (name_text name) text) gl_names

-- the text is GL_ and behind it the name of the level
unfoldable pub is_gl_marker : List ℕ → List ℕ → Bool
is_gl_marker level text = same_bytes (take 3 text) (codes "GL_") && same_bytes (drop 3 text) level

-- the k-th entry is of such a lump of the level with this marker, and no marker itself
unfoldable pub is_gl : List ℕ → ℕ → ℕ → Bool
is_gl wad marker k =
    not (is_level wad k)
    && (is_gl_name (entry_text wad k)
    || is_gl_marker (entry_text wad marker) (entry_text wad k))

-- of the numbers from `from` on and below `count` those below `end` pass a test, and `end` doesn't
pub record IsRunEnd (test : ℕ → Bool) (from count end : ℕ) : Type 0 where
  pub behind : from ≤ end
  pub among : end ≤ count
  pub passing : (k : ℕ) → from ≤ k → k < end → test k ≡ true
  pub ended : end < count → test end ≡ false

-- the entry behind a level's lumps is BEHAVIOR
unfoldable pub is_behavior : List ℕ → ℕ → Bool
is_behavior wad end = nat_lt end (lump_count wad) && entry_has_name wad (codes "BEHAVIOR") end

-- the form of a level whose lumps end here
abbrev pub form_of : List ℕ → ℕ → ℕ → LevelForm
form_of wad marker end =
    if is_udmf wad marker then Udmf else (if is_behavior wad end then Hexen else Doom)

-- these are the entries of the level with this marker
pub record IsLevelAt (wad : List ℕ) (l : LevelEntries) : Type 0 where
  pub among : l.marker < lump_count wad
  pub marker : is_level wad l.marker ≡ true
  pub lumps : IsRunEnd (goes_on wad l.marker) (l.marker + 1) (lump_count wad) l.lumps_end
  pub gl : IsRunEnd (is_gl wad l.marker) l.lumps_end (lump_count wad) l.gl_end
  pub form : l.form ≡ form_of wad l.marker l.lumps_end

-- these are the levels of a WAD: one for each marker, in the order of the directory
pub record AreLevels (wad : List ℕ) (levels : List LevelEntries) : Type 0 where
  pub markers : map (λ l. l.marker) levels
      ≡ filter (is_level wad) (range_with_len 0 (lump_count wad))
  pub each : All (IsLevelAt wad) levels

-- the entries of the level's lumps, as far as the directory goes
abbrev pub lump_numbers : List ℕ → LevelEntries → List ℕ
lump_numbers wad l =
    range_with_len (l.marker + 1) (min l.lumps_end (lump_count wad) - (l.marker + 1))

-- the entry of the level's lump of this number in a level's order, if it has one
abbrev pub lump_entry : List ℕ → LevelEntries → ℕ → Option ℕ
lump_entry wad l n = find (λ k. rank wad k == n) (lump_numbers wad l)

-- the name of the level's marker, or one without text where the directory has no such entry
abbrev pub level_name : List ℕ → LevelEntries → Name8
level_name wad l =
    if nat_lt l.marker (lump_count wad) then (entry wad l.marker).name else name_of []
