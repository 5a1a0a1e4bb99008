-- One more level, and what is read of each.
use Rattle.std.proofs.Common.{◌≡◌, ◌∙◌, refl, sym, ap, subst, ℕ, zero, suc, ◌+◌, ◌<◌, ◌≤◌, List, [], ◌∷◌, ◌++◌, length, get_or, take, arith, append-nil, append_assoc, Option, None}
use Rattle.std.specs.Prelude.{All, codes, flat_map, map}
use Rattle.std.specs.Io.KnownBytes.{Appends}
use Rattle.std.proofs.KnownBytes.{Appends-trans}
use Rattle.std.proofs.Math.Seq.{take-suc, take_all}
use Rattle.std.proofs.lemmas.List.{map-append, get_or-map, length-map}
use Rattle.std.proofs.lemmas.List.Elements.{All-head, All-tail, All-nil, All-push, All-same, All-get_or, All-from_get_or}
use Rattle.std.proofs.lemmas.Grind.{flat_map-append}
use Rattle.lump_records.specs.Names.{name_text}
use Rattle.lump_records.specs.declared.records.Name8.{Name8}
use Rattle.lump_records.specs.Lumps.{records_of}
use Rattle.lump_records.specs.Records.{thing_at, line_at, side_at, vertex_at, seg_at, sub_at, node_at, sector_at}
use Rattle.wad_build.specs.declared.levels.NamedLevel.{NamedLevel}
use Rattle.wad_levels.specs.Levels.{Lumps, IsLevel, lumps_behind, marker_at}
use Rattle.wad_file.specs.Directory.{lump}
use Rattle.wad_build.specs.Wad.{Part, AreParts, IsCoded, IsReadBack, all_lumps, lumps_of, level_part, wad_bytes}
use Rattle.wad_file.specs.Lumps.{Lump, all_bytes}
use Rattle.wad_file.specs.Placed.{AreContents, Placed, placed_directory, placed_head, placed_size, sized}
use Rattle.wad_build.specs.Views.{built_view, level_parts, sized_levels}
use Rattle.wad_build.specs.Sizes.{AreSized, sized_lumps, with_sizes}
use Rattle.wad_build.proofs.PartLemmas.{all_long, reads_back}
use Rattle.wad_file.proofs.DraftLemmas.{all_bytes-append}
use Rattle.wad_file.proofs.PlacedLemmas.{size_is, wad_long, whole_written}

one_more : (levels : List NamedLevel) (n : ℕ) (x : NamedLevel) → n < length levels → get_or levels n x ≡ x → take (n + 1) levels ≡ take n levels ++ (x ∷ [])
one_more levels n x h e =
    let s : n + 1 ≡ suc n = omega arith in
    ap (λ (k : ℕ). take k levels) s ∙ take-suc levels n x h ∙ ap (λ (y : NamedLevel). take n levels ++ (y ∷ [])) e

lumps_more :
    (levels : List NamedLevel) (n : ℕ) (x : NamedLevel) → n < length levels → get_or levels n x ≡ x
    → all_lumps (level_parts (take (n + 1) levels)) ≡ all_lumps (level_parts (take n levels)) ++ lumps_of (level_part x.name (built_view x.level))
lumps_more levels n x h e =
    ap (λ (ls : List NamedLevel). all_lumps (level_parts ls)) (one_more levels n x h e)
    ∙ ap all_lumps (map-append (λ (l : NamedLevel). level_part l.name (built_view l.level)) (take n levels) (x ∷ []))
    ∙ flat_map-append lumps_of (level_parts (take n levels)) (level_part x.name (built_view x.level) ∷ [])
    ∙ ap (λ (ls : List Lump). all_lumps (level_parts (take n levels)) ++ ls) (append-nil (lumps_of (level_part x.name (built_view x.level))))

-- one more level's lumps are written
pub put_level :
    (u v w : Option (List ℕ)) (levels : List NamedLevel) (n : ℕ) (x : NamedLevel) → n < length levels → get_or levels n x ≡ x
    → Appends u v (all_bytes (all_lumps (level_parts (take n levels)))) → Appends v w (all_bytes (lumps_of (level_part x.name (built_view x.level))))
    → Appends u w (all_bytes (all_lumps (level_parts (take (n + 1) levels))))
put_level u v w levels n x h e p q =
    let before = all_lumps (level_parts (take n levels)) in
    let mine = lumps_of (level_part x.name (built_view x.level)) in
    let same : all_bytes before ++ all_bytes mine ≡ all_bytes (all_lumps (level_parts (take (n + 1) levels))) = sym (all_bytes-append before mine) ∙ ap all_bytes (sym (lumps_more levels n x h e)) in
    subst (Appends u w) same (Appends-trans u v w (all_bytes before) (all_bytes mine) p q)

pub coded_more :
    (levels : List NamedLevel) (n : ℕ) (x : NamedLevel) → n < length levels → get_or levels n x ≡ x → All (λ (l : NamedLevel). IsCoded (built_view l.level)) (take n levels) → IsCoded (built_view x.level)
    → All (λ (l : NamedLevel). IsCoded (built_view l.level)) (take (n + 1) levels)
coded_more levels n x h e a c = All-same (λ (l : NamedLevel). IsCoded (built_view l.level)) _ _ (one_more levels n x h e) (All-push (λ (l : NamedLevel). IsCoded (built_view l.level)) (take n levels) x a c)

-- a level whose lumps are read is read
level_of : (wad : List ℕ) (x : NamedLevel) → IsReadBack wad (level_part x.name (built_view x.level)) → IsCoded (built_view x.level) → IsLevel wad (name_text x.name) (built_view x.level)
level_of wad x r c = record { accepted = r.accepted; holds = sym (all_ten (built_view x.level) (marker_at wad (name_text x.name)) (λ n b. r.lumps n b) c) }
  where
    all_ten : (l : Lumps) (at : ℕ) → ((n : ℕ) → n < 10 → lump wad (at + 1 + n) ≡ get_or (level_part x.name l).lumps n []) → IsCoded l → lumps_behind wad at ≡ l
    all_ten l at f c =
        let a0 = ap (records_of thing_at 10) (f 0 (omega arith)) ∙ c.drawn.things in
        let a1 = ap (records_of line_at 14) (f 1 (omega arith)) ∙ c.drawn.lines in
        let a2 = ap (records_of side_at 30) (f 2 (omega arith)) ∙ c.drawn.sides in
        let a3 = ap (records_of vertex_at 4) (f 3 (omega arith)) ∙ c.drawn.vertices in
        let a4 = ap (records_of seg_at 12) (f 4 (omega arith)) ∙ c.tree.segs in
        let a5 = ap (records_of sub_at 4) (f 5 (omega arith)) ∙ c.tree.subs in
        let a6 = ap (records_of node_at 28) (f 6 (omega arith)) ∙ c.tree.nodes in
        let a7 = ap (records_of sector_at 26) (f 7 (omega arith)) ∙ c.last.sectors in
        let a8 = f 8 (omega arith) in
        let a9 = f 9 (omega arith) in
        rw (a0, a1, a2, a3, a4, a5, a6, a7, a8, a9) refl

pub levels_read :
    (wad : List ℕ) (levels : List NamedLevel) → AreParts (level_parts levels) → wad ≡ wad_bytes (all_lumps (level_parts levels)) → All (λ (l : NamedLevel). IsCoded (built_view l.level)) levels
    → All (λ (l : NamedLevel). IsLevel wad (name_text l.name) (built_view l.level)) levels
levels_read wad [] a w c = All-nil (λ (l : NamedLevel). IsLevel wad (name_text l.name) (built_view l.level))
levels_read wad (y ∷ levels) a w c =
    All-from_get_or (λ (l : NamedLevel). IsLevel wad (name_text l.name) (built_view l.level)) (y ∷ levels) y
    (λ i h.
    let m = length-map (y ∷ levels) (λ (l : NamedLevel). level_part l.name (built_view l.level)) in
    let g = get_or-map (λ (l : NamedLevel). level_part l.name (built_view l.level)) (y ∷ levels) i y (level_part y.name (built_view y.level)) h in
    let r = reads_back (level_parts (y ∷ levels)) i (level_part y.name (built_view y.level)) a (omega (arith, m, h)) in
    level_of wad (get_or (y ∷ levels) i y)
    (subst (λ (p : Part). IsReadBack wad p) g (subst (λ (ws : List ℕ). IsReadBack ws (get_or (level_parts (y ∷ levels)) i (level_part y.name (built_view y.level)))) (sym w) r))
    (All-get_or (λ (l : NamedLevel). IsCoded (built_view l.level)) (y ∷ levels) i y h c))

-- ---- the sizes of the lumps

abbrev pub IsSizedLevel : NamedLevel → Type 0
IsSizedLevel x = AreSized (built_view x.level)

-- a level's lumps have the sizes that are told
sized_level : (name : Name8) (l : Lumps) → AreSized l → AreContents None (sized_lumps name l) (lumps_of (level_part name l))
sized_level name l s =
    (refl, (refl, tt), (refl, (s.things, tt), (refl, (s.lines, tt), (refl, (s.sides, tt), (refl, (s.vertices, tt), (refl, (s.segs, tt), (refl, (s.subs, tt), (refl, (s.nodes, tt), (refl, (s.sectors, tt), (refl, (refl, tt), (refl, (refl, tt), tt)))))))))))

AreContents-append : (ps qs : List Placed) (ls ms : List Lump) → AreContents None ps ls → AreContents None qs ms → AreContents None (ps ++ qs) (ls ++ ms)
AreContents-append [] qs [] ms a b = b
AreContents-append [] qs (l ∷ ls) ms a b = absurd a
AreContents-append (p ∷ ps) qs [] ms a b = absurd a
AreContents-append (p ∷ ps) qs (l ∷ ls) ms a b = (a.0, a.1, AreContents-append ps qs ls ms a.2 b)

are_sized : (levels : List NamedLevel) → All IsSizedLevel levels → AreContents None (sized_levels levels) (all_lumps (level_parts levels))
are_sized [] a = tt
are_sized (y ∷ levels) a =
    AreContents-append (sized_lumps y.name (built_view y.level)) (sized_levels levels) (lumps_of (level_part y.name (built_view y.level))) (all_lumps (level_parts levels))
    (sized_level y.name (built_view y.level) (All-head IsSizedLevel y levels a)) (are_sized levels (All-tail IsSizedLevel y levels a))

listed_sized : (list : List Placed) (levels : List NamedLevel) → list ≡ sized_levels levels → All IsSizedLevel levels → AreContents None list (all_lumps (level_parts levels))
listed_sized list levels e a = subst (λ (ps : List Placed). AreContents None ps (all_lumps (level_parts levels))) (sym e) (are_sized levels a)

-- so the length of the PWAD is known
pub pwad_fits : (list : List Placed) (levels : List NamedLevel) → list ≡ sized_levels levels → All IsSizedLevel levels → AreParts (level_parts levels) → placed_size list < 4294967296
pwad_fits list levels e a p =
    let n = size_is None list (all_lumps (level_parts levels)) (listed_sized list levels e a) in
    let f = p.fits in
    omega (arith, n, f)

pub pwad_long : (list : List Placed) (levels : List NamedLevel) → list ≡ sized_levels levels → All IsSizedLevel levels → AreParts (level_parts levels)
    → placed_size list ≡ length (wad_bytes (all_lumps (level_parts levels)))
pwad_long list levels e a p =
    let lumps = all_lumps (level_parts levels) in
    sym (wad_long (codes "PWAD") lumps refl (all_long (level_parts levels) p.each) ∙ size_is None list lumps (listed_sized list levels e a))

-- header, lumps and directory are the PWAD
pub pwad_written : (u v w x : Option (List ℕ)) (list : List Placed) (levels : List NamedLevel) → list ≡ sized_levels levels → All IsSizedLevel levels → Appends u v (placed_head (codes "PWAD") list)
    → Appends v w (all_bytes (all_lumps (level_parts levels))) → Appends w x (placed_directory list) → Appends u x (wad_bytes (all_lumps (level_parts levels)))
pwad_written u v w x list levels e a head body directory =
    whole_written None u v w x (codes "PWAD") list (all_lumps (level_parts levels)) (listed_sized list levels e a) head body directory

-- ---- listed one by one

with_sizes-more : (names : List Name8) (sizes : List ℕ) (n : ℕ) (d : Name8) (f : ℕ) → n < length names → length names ≡ length sizes
    → with_sizes (take (n + 1) names) (take (n + 1) sizes) ≡ with_sizes (take n names) (take n sizes) ++ sized (get_or names n d) (get_or sizes n f) ∷ []
with_sizes-more [] sizes n d f h e = absurd (omega arith)
with_sizes-more (y ∷ names) [] n d f h e = absurd (omega (arith, e))
with_sizes-more (y ∷ names) (z ∷ sizes) zero d f h e = refl
with_sizes-more (y ∷ names) (z ∷ sizes) (suc n) d f h e =
    let next : suc n + 1 ≡ suc (n + 1) = omega arith in
    ap (λ (k : ℕ). with_sizes (take k (y ∷ names)) (take k (z ∷ sizes))) next
    ∙ ap (λ (ps : List Placed). sized y z ∷ ps) (with_sizes-more names sizes n d f (omega arith) (omega (arith, e)))

-- a lump more
pub lumps_listed : (old list new : List Placed) (names : List Name8) (sizes : List ℕ) (n : ℕ) (d : Name8) (f : ℕ) → n < length names → length names ≡ length sizes
    → list ≡ old ++ with_sizes (take n names) (take n sizes) → new ≡ list ++ sized (get_or names n d) (get_or sizes n f) ∷ []
    → new ≡ old ++ with_sizes (take (n + 1) names) (take (n + 1) sizes)
lumps_listed old list new names sizes n d f h e before more =
    let x = sized (get_or names n d) (get_or sizes n f) in
    more ∙ ap (λ (ps : List Placed). ps ++ x ∷ []) before ∙ append_assoc old (with_sizes (take n names) (take n sizes)) (x ∷ [])
    ∙ ap (λ (ps : List Placed). old ++ ps) (sym (with_sizes-more names sizes n d f h e))

-- all of them
pub lumps_whole : (old list : List Placed) (names : List Name8) (sizes : List ℕ) (n : ℕ) → length names ≤ n → length names ≡ length sizes → list ≡ old ++ with_sizes (take n names) (take n sizes)
    → list ≡ old ++ with_sizes names sizes
lumps_whole old list names sizes n h e before =
    before ∙ ap (λ (ns : List Name8). old ++ with_sizes ns (take n sizes)) (take_all n names h) ∙ ap (λ (ks : List ℕ). old ++ with_sizes names ks) (take_all n sizes (omega (arith, h, e)))

-- a level more
pub level_listed : (list new : List Placed) (levels : List NamedLevel) (n : ℕ) (x : NamedLevel) → n < length levels → get_or levels n x ≡ x → list ≡ sized_levels (take n levels)
    → new ≡ list ++ sized_lumps x.name (built_view x.level) → new ≡ sized_levels (take (n + 1) levels)
level_listed list new levels n x h e before more =
    let f = λ (y : NamedLevel). sized_lumps y.name (built_view y.level) in
    more ∙ ap (λ (ps : List Placed). ps ++ f x) before ∙ ap (λ (ps : List Placed). sized_levels (take n levels) ++ ps) (sym (append-nil (f x)))
    ∙ sym (flat_map-append f (take n levels) (x ∷ []))
    ∙ ap sized_levels (sym (one_more levels n x h e))
