-- What is made of a level that nothing hinders, and why nothing is.
use Rattle.std.proofs.Common.{◌≡◌, ◌∙◌, refl, sym, ap, subst, ℕ, ◌≤◌, List, length, take, arith}
use Rattle.std.specs.Prelude.{None}
use Rattle.lump_records.specs.declared.records.Line.{Line}
use Rattle.lump_records.specs.declared.records.Vertex.{Vertex}
use Rattle.tree_pieces.specs.Edges.{edges_in}
use Rattle.tree_blocks.specs.Blocks.{ends_over}
use Rattle.lump_records.specs.Records.{vertex_record, seg_record, sub_record, node_record}
use Rattle.tree_nodes.specs.Built.{IsBuiltOver}
use Rattle.tree_nodes.specs.declared.built.Built.{Built}
use Rattle.tree_blocks.specs.Layout.{word_bytes}
use Rattle.tree_blocks.specs.Lump.{IsBlockmapOver}
use Rattle.wad_levels.specs.Drawn.{DrawnLists, drawn_lists, hindrance}
use Rattle.wad_levels.specs.declared.entries.LevelEntries.{LevelEntries}
use Rattle.wad_build.specs.Sound.{HasTree}
use Rattle.wad_build.proofs.BlockLemmas.{words_long}
use Rattle.wad_build.proofs.LengthLemmas.{lump_length}
use Rattle.wad_build.proofs.SoundLemmas.{sound_over}
use Rattle.wad_rebuild.specs.Causes.{IsBlockmapCause, IsTreeCause}
use Rattle.wad_rebuild.specs.Kept.{kept_faults}
use Rattle.wad_rebuild.specs.Made.{HasRecords, reject_of}
use Rattle.wad_rebuild.specs.Remade.{AreWholeLumps, HasFrontTree, IsLeftFor, IsMadeAnew, IsUnmade, front_edges, front_ends, reject_over, remade_level, used_count, used_front}
use Rattle.wad_rebuild.specs.declared.made.MadeLumps.{MadeLumps}
use Rattle.wad_rebuild.specs.declared.cause.Cause.{Cause}
use Rattle.wad_rebuild.specs.declared.cause.Cause.TheVariants.{Hindered, TooManySectors, NoTree, NoBlockmap, OutOfMemory}

whole : (b : Built) (m : MadeLumps) (ws : List ℕ) → HasRecords b m → m.blockmap.items ≡ word_bytes ws → AreWholeLumps m
whole b m ws r k =
    let v = ap (λ (xs : List ℕ). length xs) r.vertex_bytes ∙ lump_length vertex_record 4 b.vertices.items (λ i d h. refl) in
    let s = ap (λ (xs : List ℕ). length xs) r.seg_bytes ∙ lump_length seg_record 12 b.segs.items (λ i d h. refl) in
    let u = ap (λ (xs : List ℕ). length xs) r.sub_bytes ∙ lump_length sub_record 4 b.subs.items (λ i d h. refl) in
    let n = ap (λ (xs : List ℕ). length xs) r.node_bytes ∙ lump_length node_record 28 b.nodes.items (λ i d h. refl) in
    let w = ap (λ (xs : List ℕ). length xs) k ∙ words_long ws in
    record {
      vertices = omega (arith, v);
      segs = omega (arith, s);
      subs = omega (arith, u);
      nodes = omega (arith, n);
      blockmap = omega (arith, w);
    }

-- the lumps of a tree and of the blocks over a level's own lines make it sound
pub made : (d : DrawnLists) (b : Built) (m : MadeLumps) → HasRecords b m → IsBuiltOver (front_edges d) (used_front d) b → IsBlockmapOver (front_ends d) m.blockmap.items
    → reject_of d.reject m ≡ reject_over (length d.sectors) d.reject → m.kept.items ≡ kept_faults d.lines → IsMadeAnew d m
made d b m r t k j f =
    let lists : HasTree b (remade_level d m) = record { vertices = r.vertices; segs = r.segs; subs = r.subs; nodes = r.nodes } in
    record {
      tree = b;
      built = t;
      records = r;
      lists = lists;
      blocks = k;
      sound = sound_over (used_front d) b (remade_level d m) lists t k;
      reject = j;
      whole = whole b m k.words r k.bytes_are;
      kept = f;
    }

pub tree_unmade : (d : DrawnLists) (cause : Cause) → length d.sectors ≤ 32767 → IsTreeCause (front_edges d) (used_front d) cause → IsUnmade d cause
tree_unmade d (Hindered h) few c = c
tree_unmade d TooManySectors few c = absurd c
tree_unmade d (NoTree e) few c = (few, c.0, c.1)
tree_unmade d (NoBlockmap e) few c = absurd c
tree_unmade d OutOfMemory few c = tt

pub blockmap_unmade : (d : DrawnLists) (cause : Cause) → length d.sectors ≤ 32767 → HasFrontTree d → IsBlockmapCause (front_ends d) cause → IsUnmade d cause
blockmap_unmade d (Hindered h) few tree c = c
blockmap_unmade d TooManySectors few tree c = absurd c
blockmap_unmade d (NoTree e) few tree c = absurd c
blockmap_unmade d (NoBlockmap e) few tree c = (few, tree, c.0, c.1)
blockmap_unmade d OutOfMemory few tree c = tt

-- the cause of a level that nothing hinders
pub left_for : (wad : List ℕ) (l : LevelEntries) (cause : Cause) → hindrance wad l ≡ None → IsUnmade (drawn_lists wad l) cause → IsLeftFor wad l cause
left_for wad l (Hindered h) n c = absurd c
left_for wad l TooManySectors n c = (n, c)
left_for wad l (NoTree e) n c = (n, c)
left_for wad l (NoBlockmap e) n c = (n, c)
left_for wad l OutOfMemory n c = tt

-- ---- over lists that are those of the level
pub front_is : (d : DrawnLists) (vs front : List Vertex) (ls : List Line) → front ≡ take (used_count ls) vs → vs ≡ d.vertices → ls ≡ d.lines → front ≡ used_front d
front_is d vs front ls f v l = f ∙ ap (λ (xs : List Line). take (used_count xs) vs) l ∙ ap (take (used_count d.lines)) v

pub tree_refused : (d : DrawnLists) (front : List Vertex) (ls : List Line) (cause : Cause) → length d.sectors ≤ 32767 → front ≡ used_front d → ls ≡ d.lines
    → IsTreeCause (edges_in front ls) front cause → IsUnmade d cause
tree_refused d front ls cause few f l c =
    tree_unmade d cause few
    (subst (λ (xs : List Line). IsTreeCause (edges_in (used_front d) xs) (used_front d) cause) l (subst (λ (xs : List Vertex). IsTreeCause (edges_in xs ls) xs cause) f c))

pub has_tree : (d : DrawnLists) (front : List Vertex) (ls : List Line) (b : Built) → front ≡ used_front d → ls ≡ d.lines → IsBuiltOver (edges_in front ls) front b → HasFrontTree d
has_tree d front ls b f l t =
    (b, subst (λ (xs : List Line). IsBuiltOver (edges_in (used_front d) xs) (used_front d) b) l (subst (λ (xs : List Vertex). IsBuiltOver (edges_in xs ls) xs b) f t))

pub blocks_refused : (d : DrawnLists) (front : List Vertex) (ls : List Line) (cause : Cause) → length d.sectors ≤ 32767 → HasFrontTree d → front ≡ used_front d → ls ≡ d.lines
    → IsBlockmapCause (ends_over front ls) cause → IsUnmade d cause
blocks_refused d front ls cause few tree f l c =
    blockmap_unmade d cause few tree
    (subst (λ (xs : List Line). IsBlockmapCause (ends_over (used_front d) xs) cause) l (subst (λ (xs : List Vertex). IsBlockmapCause (ends_over xs ls) cause) f c))

pub made_over : (d : DrawnLists) (front : List Vertex) (ls ks : List Line) (b : Built) (m : MadeLumps) (bytes : List ℕ) → front ≡ used_front d → ls ≡ d.lines → ks ≡ d.lines
    → HasRecords b m → IsBuiltOver (edges_in front ls) front b → IsBlockmapOver (ends_over front ks) bytes → m.blockmap.items ≡ bytes
    → reject_of d.reject m ≡ reject_over (length d.sectors) d.reject → m.kept.items ≡ kept_faults d.lines → IsMadeAnew d m
made_over d front ls ks b m bytes f l k r t w e j kept =
    made d b m r
    (subst (λ (xs : List Line). IsBuiltOver (edges_in (used_front d) xs) (used_front d) b) l (subst (λ (xs : List Vertex). IsBuiltOver (edges_in xs ls) xs b) f t))
    (subst (λ (xs : List ℕ). IsBlockmapOver (front_ends d) xs) (sym e)
    (subst (λ (xs : List Line). IsBlockmapOver (ends_over (used_front d) xs) bytes) k (subst (λ (xs : List Vertex). IsBlockmapOver (ends_over xs ks) bytes) f w)))
    j kept
