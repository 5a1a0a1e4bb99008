-- A level's lumps are whole numbers of records, and the WAD of one level is short enough.
use Rattle.std.proofs.Common.{◌≡◌, refl, ℕ, zero, suc, ◌*◌, ◌<◌, ◌≤◌, List, [], ◌∷◌, length, get_or, arith, length-append}
use Rattle.std.specs.Prelude.{flat_map, All, ◌%◌}
use Rattle.std.proofs.Math.Nat.{mul-suc}
use Rattle.std.proofs.lemmas.List.Elements.{All-head, All-tail, All-nil, All-cons}
use Rattle.lump_records.specs.Names.{name_text, is_marker, IsNamed}
use Rattle.lump_records.specs.Records.{thing_record, line_record, side_record, vertex_record, seg_record, sub_record, node_record, sector_record}
use Rattle.lump_records.specs.declared.records.Name8.{Name8}
use Rattle.lump_records.specs.declared.records.Side.{Side}
use Rattle.lump_records.specs.declared.records.Sector.{Sector}
use Rattle.map_tables.specs.Ranges.{IsSide, IsSector}
use Rattle.wad_levels.specs.Levels.{Lumps, record_sizes}
use Rattle.wad_build.specs.Wad.{IsPart, AreParts, all_lumps, lumps_of, level_part}
use Rattle.wad_file.specs.Lumps.{all_bytes, wad_size}
use Rattle.wad_build.specs.Sizes.{AreSized}
use Rattle.wad_build.proofs.PutLemmas.{ten_long}
use Rattle.wad_build.proofs.NameLemmas.{marker_free, marker_size, texture_size}

-- records of n bytes
pub lump_length : {R : Type 0} (bytes_of : R → List ℕ) (n : ℕ) (xs : List R) → All (λ x. length (bytes_of x) ≡ n) xs → length (flat_map bytes_of xs) ≡ n * length xs
lump_length bytes_of n [] a = omega arith
lump_length bytes_of n (x ∷ xs) a =
    let rest = lump_length bytes_of n xs (All-tail (λ y. length (bytes_of y) ≡ n) x xs a) in
    let first : length (bytes_of x) ≡ n = All-head (λ y. length (bytes_of y) ≡ n) x xs a in
    rw (length-append (bytes_of x) (flat_map bytes_of xs), rest, first, mul-suc n (length xs)) (omega arith)

side_size : (s : Side) → IsSide s → length (side_record s) ≡ 30
side_size s h =
    let upper = texture_size s.upper h.upper in
    let lower = texture_size s.lower h.lower in
    let middle = texture_size s.middle h.middle in
    simp length-append (omega arith)

sector_size : (s : Sector) → IsSector s → length (sector_record s) ≡ 26
sector_size s h =
    let floor_name = texture_size s.floor_name h.floor_name in
    let ceiling_name = texture_size s.ceiling_name h.ceiling_name in
    simp length-append (omega arith)

-- what a level's lists keep, so that their bytes can be written
pub record IsWritable (l : Lumps) : Type 0 where
  pub sides : All IsSide l.sides
  pub sectors : All IsSector l.sectors
  pub few_things : length l.things ≤ 32767
  pub few_lines : length l.lines ≤ 32767
  pub few_sides : length l.sides ≤ 32767
  pub few_vertices : length l.vertices ≤ 32767
  pub few_segs : length l.segs ≤ 32767
  pub few_subs : length l.subs ≤ 32767
  pub few_nodes : length l.nodes ≤ 32767
  pub few_sectors : length l.sectors ≤ 4096
  pub short_reject : length l.reject ≤ 2097153
  pub short_blockmap : length l.blockmap ≤ 131072
  pub words : length l.blockmap % 2 ≡ 0

pub lengths : (l : Lumps) → IsWritable l → AreSized l
lengths l w =
    record {
      things = lump_length thing_record 10 l.things (λ k d h. refl);
      lines = lump_length line_record 14 l.lines (λ k d h. refl);
      sides = lump_length side_record 30 l.sides (λ k d h. side_size (get_or l.sides k d) (w.sides k d h));
      vertices = lump_length vertex_record 4 l.vertices (λ k d h. refl);
      segs = lump_length seg_record 12 l.segs (λ k d h. refl);
      subs = lump_length sub_record 4 l.subs (λ k d h. refl);
      nodes = lump_length node_record 28 l.nodes (λ k d h. refl);
      sectors = lump_length sector_record 26 l.sectors (λ k d h. sector_size (get_or l.sectors k d) (w.sectors k d h));
    }

-- the lumps in order, each of whole records
whole_lumps : (name : Name8) (l : Lumps) → AreSized l → length l.blockmap % 2 ≡ 0 → (n : ℕ) → n < 10 → length (get_or (level_part name l).lumps n []) % get_or record_sizes n 1 ≡ 0
whole_lumps name l a b zero h = let e = a.things in omega (arith, e)
whole_lumps name l a b (suc zero) h = let e = a.lines in omega (arith, e)
whole_lumps name l a b (suc (suc zero)) h = let e = a.sides in omega (arith, e)
whole_lumps name l a b (suc (suc (suc zero))) h = let e = a.vertices in omega (arith, e)
whole_lumps name l a b (suc (suc (suc (suc zero)))) h = let e = a.segs in omega (arith, e)
whole_lumps name l a b (suc (suc (suc (suc (suc zero))))) h = let e = a.subs in omega (arith, e)
whole_lumps name l a b (suc (suc (suc (suc (suc (suc zero)))))) h = let e = a.nodes in omega (arith, e)
whole_lumps name l a b (suc (suc (suc (suc (suc (suc (suc zero))))))) h = let e = a.sectors in omega (arith, e)
whole_lumps name l a b (suc (suc (suc (suc (suc (suc (suc (suc zero)))))))) h = omega arith
whole_lumps name l a b (suc (suc (suc (suc (suc (suc (suc (suc (suc zero))))))))) h = b
whole_lumps name l a b (suc (suc (suc (suc (suc (suc (suc (suc (suc (suc n)))))))))) h = absurd (omega arith)

-- one level's lumps
pub one_long : (name : Name8) (l : Lumps) → IsWritable l → length (all_bytes (lumps_of (level_part name l))) ≤ 6000000
one_long name l w =
    let a = lengths l w in
    let t = ten_long (flat_map thing_record l.things) (flat_map line_record l.lines) (flat_map side_record l.sides) (flat_map vertex_record l.vertices) (flat_map seg_record l.segs)
    (flat_map sub_record l.subs) (flat_map node_record l.nodes) (flat_map sector_record l.sectors) l.reject l.blockmap in
    let e0 = a.things in let e1 = a.lines in let e2 = a.sides in let e3 = a.vertices in
    let e4 = a.segs in let e5 = a.subs in let e6 = a.nodes in let e7 = a.sectors in
    let f0 = w.few_things in let f1 = w.few_lines in let f2 = w.few_sides in let f3 = w.few_vertices in
    let f4 = w.few_segs in let f5 = w.few_subs in let f6 = w.few_nodes in let f7 = w.few_sectors in
    let f8 = w.short_reject in let f9 = w.short_blockmap in
    omega (arith, t, e0, e1, e2, e3, e4, e5, e6, e7, f0, f1, f2, f3, f4, f5, f6, f7, f8, f9)

one_size : (name : Name8) (l : Lumps) → IsWritable l → wad_size (all_lumps (level_part name l ∷ [])) < 4294967296
one_size name l w = let t = one_long name l w in omega (arith, t)

-- the lumps of one level under a map's name
pub is_part : (name : Name8) (l : Lumps) → IsNamed is_marker name → IsWritable l → IsPart (level_part name l)
is_part name l n w =
    record {
      long = marker_size name n;
      free = marker_free (name_text name) n.named;
      ten = refl;
      whole = whole_lumps name l (lengths l w) w.words;
    }

-- one level under a map's name can be written
pub one_part : (name : Name8) (l : Lumps) → IsNamed is_marker name → IsWritable l → AreParts (level_part name l ∷ [])
one_part name l n w =
    record {
      each = All-cons IsPart (level_part name l) [] (is_part name l n w) (All-nil IsPart);
      differ = λ i j p h k d. absurd (d (omega (arith, h, k)));
      fits = one_size name l w;
    }
