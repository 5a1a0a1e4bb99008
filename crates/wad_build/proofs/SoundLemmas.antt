-- A map with its tree and its blocks is a sound level.
use Rattle.std.proofs.Common.{◌≡◌, ◌∙◌, refl, sym, ap, subst, ℕ, ◌*◌, ◌<◌, ◌≤◌, List, [], ◌∷◌, ◌++◌, length, get_or, arith, length-append, All}
use Rattle.std.specs.Prelude.{◌↔◌, Result, Ok, Err}
use Rattle.std.proofs.Math.Nat.{mul-le-mul}
use Rattle.std.proofs.lemmas.List.{length-replicate, length-map}
use Rattle.lump_records.specs.Names.{name_text, is_marker, IsNamed}
use Rattle.lump_records.specs.declared.records.Name8.{Name8}
use Rattle.lump_records.specs.declared.records.Line.{Line}
use Rattle.lump_records.specs.declared.records.Vertex.{Vertex}
use Rattle.lump_records.specs.declared.records.Seg.{Seg}
use Rattle.lump_records.specs.declared.records.Sub.{Sub}
use Rattle.lump_records.specs.declared.records.Node.{Node}
use Rattle.map_tables.specs.Tables.{Tables}
use Rattle.map_tables.specs.WellFormed.{WellFormed}
use Rattle.tree_pieces.specs.Edges.{edge_between, edges_in, edges_of}
use Rattle.tree_pieces.specs.Segs.{RunAlong, HasFields, IsConvexSub}
use Rattle.tree_pieces.specs.Nodes.{IsParting}
use Rattle.tree_blocks.proofs.SizeLemmas.{one_lists}
use Rattle.tree_blocks.specs.Layout.{OffsetsFit}
use Rattle.tree_blocks.specs.Blocks.{ends_in, ends_over, map_ends, grid_of}
use Rattle.tree_blocks.specs.Lump.{IsBlockmap, IsBlockmapOver, IsTooLarge, RefusesBlockmap}
use Rattle.tree_blocks.specs.declared.error.BlockmapError.{BlockmapError}
use Rattle.tree_blocks.specs.declared.error.BlockmapError.TheVariants as blocks
use Rattle.tree_nodes.specs.InRange.{TreeInRange}
use Rattle.tree_nodes.specs.Sound.{AddsEnds, AllDiffer}
use Rattle.tree_nodes.specs.Built.{IsBuilt, IsBuiltOver, IsTreeRefusal}
use Rattle.tree_nodes.proofs.RangeLemmas.{all_differ, new_differ, tree_in_range}
use Rattle.tree_nodes.specs.declared.error.TreeError.{TreeError}
use Rattle.tree_nodes.specs.declared.error.TreeError.TheVariants as tree
use Rattle.tree_nodes.specs.declared.built.Built.{Built}
use Rattle.wad_build.specs.declared.error.BuildError.{BuildError}
use Rattle.wad_build.specs.declared.error.BuildError.TheVariants as build
use Rattle.wad_levels.specs.Levels.{Lumps, IsLevel}
use Rattle.wad_build.specs.Range.{LineInRange, IsInRange}
use Rattle.wad_build.specs.Reject.{reject_size}
use Rattle.wad_build.specs.Words.{words}
use Rattle.wad_build.specs.Sound.{CanBeBuilt, IsBuildRefusal, IsBuiltLevel, IsSoundBuild, IsSoundLevel, IsSoundOver, HasTree, level_over, no_rejects, of_blockmap, of_tree}
use Rattle.wad_build.specs.Wad.{AreParts, IsPart, all_lumps, level_part, wad_bytes}
use Rattle.wad_build.specs.Projects.{HoldsOnly}
use Rattle.wad_build.proofs.LengthLemmas.{IsWritable, is_part, one_part}
use Rattle.wad_build.proofs.BlockLemmas.{words_back, words_long, blocks_in_range}

-- ---- the drawn lumps' references

line_in :
    (m : Tables) (l : Lumps) (added : List Vertex) → WellFormed m → l.vertices ≡ m.vertices ++ added → l.sides ≡ m.sides → (k : ℕ) (d : Line) → k < length m.lines → LineInRange l (get_or m.lines k d)
line_in m l added w v s k d h =
    let ends = w.ends k d h in
    let sides = w.line_sides k d h in
    let range = w.lines k d h in
    let some = ap length v in
    let more = length-append m.vertices added in
    let same = ap length s in
    let e1 = ends.v1 in let e2 = ends.v2 in let r1 = range.v1 in let r2 = range.v2 in
    let right = sides.right in let few = w.side_count in
    record {
      v1 = record { among = omega (arith, e1, some, more); small = omega (arith, r1) };
      v2 = record { among = omega (arith, e2, some, more); small = omega (arith, r2) };
      right = record { among = omega (arith, right, same); small = omega (arith, right, few) };
      left = λ q. let left = sides.left q in record { among = omega (arith, left, same); small = omega (arith, left, few) };
      two_sided = λ q. sides.two_sided q;
    }

-- as many lines are built as the map has
many : (m : Tables) → length (edges_of m) ≡ length m.lines
many m = length-map m.lines (edge_between m.vertices)

level_in_range : (m : Tables) (b : Built) (bytes : List ℕ) → WellFormed m → IsBuilt m b → IsSoundOver m.vertices (level_over m b bytes) → IsInRange (level_over m b bytes)
level_in_range m b bytes w t s =
    let l = level_over m b bytes in
    let a = t.sound.added_ends in
    record {
      lines = λ i d h. line_in m l a.added w a.all refl i d h;
      sides = λ i d h. let s = w.side_sectors i d h in let c = w.sector_count in record { among = s; small = omega (arith, s, c) };
      tree = s.tree;
      reject = let e : length (no_rejects (length m.sectors)) ≡ reject_size (length m.sectors) = length-replicate (reject_size (length m.sectors)) 0 in omega (arith, e);
      header = s.header;
      lists = s.lists;
    }

-- ---- a level with a tree and blocks of its own lines

module _ (drawn : List Vertex) (lines : List Line) where
  -- what a built tree says of its lists
  record AreSound (vs : List Vertex) (ss : List Seg) (us : List Sub) (ns : List Node) : Type 0 where
    added : AddsEnds drawn vs ss
    tree : TreeInRange vs lines ss us ns
    along : RunAlong (edges_in drawn lines) vs ss
    fields : All (HasFields (edges_in drawn lines) vs) ss
    convex : All (IsConvexSub (edges_in drawn lines) vs ss) us
    partings : All (IsParting (edges_in drawn lines) vs ss us ns) ns

  built_sound : (b : Built) → IsBuiltOver (edges_in drawn lines) drawn b → AreSound b.vertices.items b.segs.items b.subs.items b.nodes.items
  built_sound b t = record {
    added = t.sound.added_ends;
    tree = tree_in_range drawn lines b.vertices.items b.segs.items b.subs.items b.nodes.items t.sound;
    along = t.sound.run_along;
    fields = t.sound.fields;
    convex = t.sound.convex;
    partings = t.sound.partings;
  }

  has_sound : (b : Built) (l : Lumps) → HasTree b l → AreSound b.vertices.items b.segs.items b.subs.items b.nodes.items → AreSound l.vertices l.segs l.subs l.nodes
  has_sound b l h s =
      let vs = subst (λ (x : List Vertex). AreSound x b.segs.items b.subs.items b.nodes.items) (sym h.vertices) s in
      let ss = subst (λ (x : List Seg). AreSound l.vertices x b.subs.items b.nodes.items) (sym h.segs) vs in
      let us = subst (λ (x : List Sub). AreSound l.vertices l.segs x b.nodes.items) (sym h.subs) ss in
      subst (λ (x : List Node). AreSound l.vertices l.segs l.subs x) (sym h.nodes) us

pub sound_over : (drawn : List Vertex) (b : Built) (l : Lumps) → HasTree b l → IsBuiltOver (edges_in drawn l.lines) drawn b → IsBlockmapOver (ends_over drawn l.lines) l.blockmap → IsSoundOver drawn l
sound_over drawn b l h t k =
    let s = has_sound drawn l.lines b l h (built_sound drawn l.lines b t) in
    let n = length-map l.lines (edge_between drawn) in
    let long = length-map l.lines (ends_in drawn) in
    let some = t.some_line in
    let few = t.few_lines in
    let same : words l.blockmap ≡ k.words = ap words k.bytes_are ∙ words_back k.words k.sixteen_bits in
    let blocks = blocks_in_range l (ends_over drawn l.lines) l.blockmap k long (omega (arith, long, n, some)) (omega (arith, long, n, few)) in
    record {
      added = s.added;
      tree = s.tree;
      along = s.along;
      fields = s.fields;
      convex = s.convex;
      partings = s.partings;
      blocks = rw same k.lists;
      header = rw same blocks.header;
      lists = rw same blocks.lists;
    }

pub sound_level : (m : Tables) (b : Built) (bytes : List ℕ) → WellFormed m → IsBuilt m b → IsBlockmap m bytes → IsSoundLevel m (level_over m b bytes)
sound_level m b bytes w t k =
    let l = level_over m b bytes in
    let s = sound_over m.vertices b l (record { vertices = refl; segs = refl; subs = refl; nodes = refl }) t k in
    let a = t.sound.added_ends in
    record {
      things = refl;
      lines = refl;
      sides = refl;
      sectors = refl;
      reject = refl;
      in_range = level_in_range m b bytes w t s;
      sound = s;
      differ = subst AllDiffer (sym a.all) (new_differ m.vertices a.added (all_differ m.vertices w.places) a.new);
    }

-- ---- it can be written

square : (n : ℕ) → n ≤ 4096 → n * n ≤ 16777216
square n h = mul-le-mul h h

reject_short : (n : ℕ) → n ≤ 4096 → length (no_rejects n) ≡ reject_size n → length (no_rejects n) ≤ 2097153
reject_short n h e = let s = square n h in omega (arith, e, s)

pub writable : (m : Tables) (b : Built) (bytes : List ℕ) → WellFormed m → IsBuilt m b → IsBlockmap m bytes → IsWritable (level_over m b bytes)
writable m b bytes w t k =
    let long : length bytes ≡ 2 * length k.words = ap length k.bytes_are ∙ words_long k.words in
    let short = k.short in
    let c = w.sector_count in
    let e : length (no_rejects (length m.sectors)) ≡ reject_size (length m.sectors) = length-replicate (reject_size (length m.sectors)) 0 in
    record {
      sides = w.sides;
      sectors = w.sectors;
      few_things = w.thing_count;
      few_lines = w.line_count;
      few_sides = w.side_count;
      few_vertices = t.small.few_vertices;
      few_segs = t.small.few_segs;
      few_subs = t.small.few_subs;
      few_nodes = t.small.few_nodes;
      few_sectors = c;
      short_reject = reject_short (length m.sectors) c e;
      short_blockmap = omega (arith, long, short);
      words = omega (arith, long);
    }

-- ---- a level that was made of the map, its tree and its blocks

pub level_writable : (m : Tables) (l : Lumps) → IsBuiltLevel m l → IsWritable l
level_writable m l b = subst (λ (x : Lumps). IsWritable x) (sym b.is_over) (writable m b.tree b.blockmap b.well_formed b.built b.is_blockmap)

pub part_of_level : (m : Tables) (l : Lumps) (name : Name8) → name ≡ m.name → IsBuiltLevel m l → IsPart (level_part name l)
part_of_level m l name n b =
    let named : IsNamed is_marker name = subst (λ (x : Name8). IsNamed is_marker x) (sym n) b.well_formed.name in
    is_part name l named (level_writable m l b)

pub parts_of_level : (m : Tables) (l : Lumps) (name : Name8) → name ≡ m.name → IsBuiltLevel m l → AreParts (level_part name l ∷ [])
parts_of_level m l name n b =
    one_part name l (subst (λ (x : Name8). IsNamed is_marker x) (sym n) b.well_formed.name) (level_writable m l b)

pub level_sound : (m : Tables) (l : Lumps) → IsBuiltLevel m l → IsSoundLevel m l
level_sound m l b =
    subst (λ (x : Lumps). IsSoundLevel m x) (sym b.is_over) (sound_level m b.tree b.blockmap b.well_formed b.built b.is_blockmap)

pub sound_build : (m : Tables) (l : Lumps) (wad : List ℕ) (name : Name8) → name ≡ m.name → IsBuiltLevel m l → IsLevel wad (name_text name) l → IsSoundBuild m wad
sound_build m l wad name n b r =
    record {
      level = l;
      reads = subst (λ (x : Name8). IsLevel wad (name_text x) l) n r;
      sound = level_sound m l b;
    }

pub holds_one : (m : Tables) (l : Lumps) (wad : List ℕ) (name : Name8) → name ≡ m.name → IsBuiltLevel m l → wad ≡ wad_bytes (all_lumps (level_part name l ∷ [])) → HoldsOnly (m ∷ []) wad
holds_one m l wad name n b w =
    record {
      levels = l ∷ [];
      sound = (level_sound m l b, tt);
      built = (b, tt);
      bytes = w ∙ ap (λ (x : Name8). wad_bytes (all_lumps (level_part x l ∷ []))) n;
    }

never_both : (m : Tables) (bytes : List ℕ) → IsBlockmap m bytes → IsTooLarge (map_ends m) → ⊥
never_both m bytes k t =
    let o = k.laid_out in
    let same : o.lists ≡ t.lists = one_lists (map_ends m) (grid_of (map_ends m)) o.lists t.lists o.are_lists t.are_lists in
    t.too_large (subst (λ (x : List (List ℕ)). OffsetsFit x) same o.fit)

pub buildable : (m : Tables) (l : Lumps) → IsBuiltLevel m l → CanBeBuilt m
buildable m l b = record { tree = b.tree; built = b.built; fits = never_both m b.blockmap b.is_blockmap }

-- ---- the refusals

pub tree_cause : (m : Tables) (e : TreeError) → IsTreeRefusal m e → IsBuildRefusal m (of_tree e)
tree_cause m tree.OutOfMemory h = tt
tree_cause m tree.NothingToBuild h = sym (many m) ∙ h
tree_cause m tree.TooManyVertices h = h
tree_cause m tree.TooManySegs h = h
tree_cause m tree.TooManySubsectors h = h
tree_cause m tree.TooDeep h = h

pub blockmap_cause : (m : Tables) (b : Built) (e : BlockmapError) → IsBuilt m b → RefusesBlockmap m e → IsBuildRefusal m (of_blockmap e)
blockmap_cause m b blocks.OutOfMemory t h = tt
blockmap_cause m b blocks.NothingToBuild t h = sym (length-map m.lines (ends_in m.vertices)) ∙ ap length h
blockmap_cause m b blocks.BlockmapTooLarge t h = record { tree = b; built = t; too_large = h.1 }

-- ---- a map without a line

abbrev refused : (X E : Type 0) → E → Result X E
refused X E e = Err e

pub same_error : {X E : Type 0} {P : Type 0} (a b : E) → (a ≡ b ↔ P) → (refused X E a ≡ refused X E b ↔ P)
same_error a b h = (λ q. h.0 (cc), λ z. ap Err (h.1 z))

pub tree_nothing : (r : Result Built TreeError) (e : TreeError) (b : BuildError) (n : ℕ) → r ≡ Err e → b ≡ of_tree e → (r ≡ Err tree.NothingToBuild ↔ n ≡ 0) → (b ≡ build.NothingToBuild ↔ n ≡ 0)
tree_nothing r tree.OutOfMemory b n is e h = (λ q. cc, λ z. let w = h.1 z in cc)
tree_nothing r tree.NothingToBuild b n is e h = (λ q. h.0 is, λ z. e)
tree_nothing r tree.TooManyVertices b n is e h = (λ q. cc, λ z. let w = h.1 z in cc)
tree_nothing r tree.TooManySegs b n is e h = (λ q. cc, λ z. let w = h.1 z in cc)
tree_nothing r tree.TooManySubsectors b n is e h = (λ q. cc, λ z. let w = h.1 z in cc)
tree_nothing r tree.TooDeep b n is e h = (λ q. cc, λ z. let w = h.1 z in cc)

pub blockmap_nothing : (m : Tables) (t : Built) (e : BlockmapError) (b : BuildError) → IsBuilt m t → RefusesBlockmap m e → b ≡ of_blockmap e → (b ≡ build.NothingToBuild ↔ length m.lines ≡ 0)
blockmap_nothing m t blocks.OutOfMemory b k h e = (λ q. cc, λ z. let s = k.some_line in let n = many m in absurd (omega (arith, s, n, z)))
blockmap_nothing m t blocks.NothingToBuild b k h e = (λ q. blockmap_cause m t blocks.NothingToBuild k h, λ z. e)
blockmap_nothing m t blocks.BlockmapTooLarge b k h e = (λ q. cc, λ z. let s = k.some_line in let n = many m in absurd (omega (arith, s, n, z)))

-- a map that was built has a line
pub built_some : {E : Type 0} {X : Type 0} (m : Tables) (t : Built) (x : X) (e : E) → IsBuilt m t → (Ok x ≡ Err e ↔ length m.lines ≡ 0)
built_some m t x e k = (λ q. cc, λ z. let s = k.some_line in let n = many m in absurd (omega (arith, s, n, z)))

pub memory_some : {X : Type 0} (m : Tables) (t : Built) → IsBuilt m t → (refused X BuildError build.OutOfMemory ≡ refused X BuildError build.NothingToBuild ↔ length m.lines ≡ 0)
memory_some m t k = (λ q. cc, λ z. let s = k.some_line in let n = many m in absurd (omega (arith, s, n, z)))
