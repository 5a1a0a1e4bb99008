-- The lumps of a level that is a map's become the very bytes of the map's build.
use Rattle.std.proofs.Common.{◌≡◌, ◌∙◌, sym, ap, ℕ, ◌*◌, ◌/◌, ◌<◌, ◌≤◌, ◌⊎◌, inl, inr, Bool, true, false, List, [], ◌∷◌, length, get_or, drop, arith, Option, Some, None}
use Rattle.std.specs.Prelude.{All, ◌%◌, if◌then◌else◌, flat_map}
use Rattle.std.specs.Option.{option_map_or}
use Rattle.std.proofs.lemmas.Bool.{cases_lt}
use Rattle.std.proofs.lemmas.List.{append-nil, get_or_past}
use Rattle.lump_records.specs.Lumps.{records_of}
use Rattle.lump_records.specs.Records.{thing_at, line_at, side_at, sector_at, thing_record, line_record, side_record, vertex_record, seg_record, sub_record, node_record, sector_record}
use Rattle.lump_records.proofs.RecordBytes.{thing_record-at, line_record-at, side_record-at, sector_record-at}
use Rattle.map_tables.specs.Tables.{Tables}
use Rattle.map_tables.proofs.BodyLemmas.{AreBytes, AreBytes-drop, AreBytes-take, lump-back}
use Rattle.wad_file.specs.Directory.{entry, is_outside, lump, standing}
use Rattle.wad_file.specs.Lumps.{lump_at}
use Rattle.wad_levels.specs.Drawn.{drawn_lists, level_lump}
use Rattle.wad_levels.specs.Entries.{lump_entry}
use Rattle.wad_levels.specs.Levels.{Lumps, lump_names}
use Rattle.wad_levels.specs.declared.entries.LevelEntries.{LevelEntries}
use Rattle.wad_build.specs.Projects.{AreBuiltLevels, parts_under}
use Rattle.wad_build.specs.Sound.{IsBuiltLevel}
use Rattle.wad_build.specs.Wad.{all_lumps, level_part, lumps_of, wad_bytes, with_names}
use Rattle.wad_build.proofs.OneLevel.{one_level}
use Rattle.wad_rebuild.specs.ReadBack.{BuildsAreTheRebuiltLumps, IsLevelOfMap, RebuiltLumpsAreTheBuilds}
use Rattle.wad_rebuild.specs.Rebuilt.{made_lumps, ten_bytes}
use Rattle.wad_rebuild.specs.Made.{reject_of}
use Rattle.wad_rebuild.specs.Remade.{IsRemade, remade_level}
use Rattle.wad_rebuild.specs.declared.made.MadeLumps.{MadeLumps}
use Rattle.wad_rebuild.proofs.MapLevels.{built_again}
use Rattle.wad_rebuild.proofs.ReadBack.{drawn_are_whole}

-- ---- what was drawn stays as bytes

each_byte : (wad : List ℕ) → All (λ b. b < 256) wad → AreBytes wad
each_byte wad h k = by (cases_lt k (length wad))
  where
    by : (k < length wad) ⊎ (length wad ≤ k) → get_or wad k 0 < 256
    by (inl l) = h k 0 l
    by (inr l) = let e = get_or_past wad k 0 l in omega (arith, e)

standing_bytes : (wad : List ℕ) (k : ℕ) → AreBytes wad → AreBytes (standing wad k)
standing_bytes wad k fits = by (is_outside wad (entry wad k))
  where
    by : (b : Bool) → AreBytes (if b then [] else lump wad k)
    by true = λ n. omega arith
    by false = AreBytes-take (entry wad k).size (drop (entry wad k).at wad) (AreBytes-drop (entry wad k).at wad fits)

level_bytes : (wad : List ℕ) (l : LevelEntries) (n : ℕ) → AreBytes wad → AreBytes (level_lump wad l n)
level_bytes wad l n fits = by (lump_entry wad l n)
  where
    by : (o : Option ℕ) → AreBytes (option_map_or (standing wad) o [])
    by None = λ k. omega arith
    by (Some k) = standing_bytes wad k fits

-- the records that whole records' bytes hold have these bytes
same_bytes :
    {R : Type 0} (at : List ℕ → R) (bytes_of : R → List ℕ) (n : ℕ) (bytes : List ℕ) → 0 < n → length bytes % n ≡ 0 → AreBytes bytes
    → ((chunk : List ℕ) → AreBytes chunk → length chunk ≡ n → bytes_of (at chunk) ≡ chunk) → bytes ≡ flat_map bytes_of (records_of at n bytes)
same_bytes at bytes_of n bytes some whole fits back =
    let many : length bytes ≡ n * (length bytes / n) = omega arith in
    sym (lump-back at bytes_of n (length bytes / n) bytes some many fits back)

-- ---- the lumps

-- the ten lumps are the bytes of the level that they hold
ten_are : (m : Tables) (wad : List ℕ) (l : LevelEntries) (made : MadeLumps) → AreBytes wad → IsRemade wad l made
    → ten_bytes wad l made ≡ (level_part m.name (remade_level (drawn_lists wad l) made)).lumps
ten_are m wad l made fits is =
    let whole = drawn_are_whole wad l is.unhindered in
    let records = is.made.records in
    let things = same_bytes thing_at thing_record 10 (level_lump wad l 0) (omega arith) whole.things (level_bytes wad l 0 fits) thing_record-at in
    let lines = same_bytes line_at line_record 14 (level_lump wad l 1) (omega arith) whole.lines (level_bytes wad l 1 fits) line_record-at in
    let sides = same_bytes side_at side_record 30 (level_lump wad l 2) (omega arith) whole.sides (level_bytes wad l 2 fits) side_record-at in
    let vertices = records.vertex_bytes ∙ ap (flat_map vertex_record) (sym records.vertices) in
    let segs = records.seg_bytes ∙ ap (flat_map seg_record) (sym records.segs) in
    let subs = records.sub_bytes ∙ ap (flat_map sub_record) (sym records.subs) in
    let nodes = records.node_bytes ∙ ap (flat_map node_record) (sym records.nodes) in
    let sectors = same_bytes sector_at sector_record 26 (level_lump wad l 7) (omega arith) whole.sectors (level_bytes wad l 7 fits) sector_record-at in
    λ i. things i ∷ lines i ∷ sides i ∷ vertices i ∷ segs i ∷ subs i ∷ nodes i ∷ sectors i ∷ reject_of (level_lump wad l 8) made ∷ made.blockmap.items ∷ []

pub same_lumps : RebuiltLumpsAreTheBuilds
same_lumps m wad l made level of_map is built =
    let again = one_level m (remade_level (drawn_lists wad l) made) level (built_again m (drawn_lists wad l) made of_map.drawn is.made) built in
    ten_are m wad l made (each_byte wad of_map.bytes) is ∙ ap (λ (x : Lumps). (level_part m.name x).lumps) again

-- with a marker under the map's name they are all eleven
same_eleven : (m : Tables) (wad : List ℕ) (l : LevelEntries) (made : MadeLumps) (level : Lumps) → IsLevelOfMap m wad l → lump_at wad l.marker ≡ record { name = m.name; bytes = [] }
    → IsRemade wad l made → IsBuiltLevel m level → made_lumps wad l made ≡ lumps_of (level_part m.name level)
same_eleven m wad l made level of_map marker is built =
    let ten = same_lumps m wad l made level of_map is built in
    λ i. marker i ∷ with_names lump_names (ten i)

pub same_wad : BuildsAreTheRebuiltLumps
same_wad m wad l made built of_map marker is holds = by holds.levels holds.built holds.bytes
  where
    by : (ls : List Lumps) → AreBuiltLevels (m ∷ []) ls → built ≡ wad_bytes (all_lumps (parts_under (m ∷ []) ls)) → built ≡ wad_bytes (made_lumps wad l made)
    by [] levels bytes = absurd levels
    by (x ∷ y ∷ ls) levels bytes = absurd levels.1
    by (x ∷ []) levels bytes =
        bytes ∙ ap wad_bytes (append-nil (lumps_of (level_part m.name x)) ∙ sym (same_eleven m wad l made x of_map marker is levels.0))
