-- A map has one built level, and maps have one PWAD.
use Rattle.std.proofs.Common.{◌≡◌, ◌∙◌, refl, sym, ap, ℕ, List, [], ◌∷◌, length}
use Rattle.map_tables.specs.Tables.{Tables}
use Rattle.tree_blocks.specs.Blocks.{grid_of, map_ends}
use Rattle.tree_blocks.specs.Layout.{blockmap_words, word_bytes}
use Rattle.tree_blocks.specs.Lump.{IsBlockmapOver}
use Rattle.tree_blocks.specs.declared.line_ends.LineEnds.{LineEnds}
use Rattle.tree_blocks.proofs.SizeLemmas.{one_lists}
use Rattle.tree_nodes.proofs.OneBuild.{one_build}
use Rattle.tree_pieces.specs.Edges.{edges_of}
use Rattle.wad_build.specs.Projects.{AreBuiltLevels, HoldsOnly, parts_under}
use Rattle.wad_build.specs.Sound.{IsBuiltLevel, level_over, no_rejects}
use Rattle.wad_build.specs.Wad.{all_lumps, wad_bytes}
use Rattle.wad_levels.specs.Levels.{Lumps}

one_blockmap : (lines : List LineEnds) (a b : List ℕ) → IsBlockmapOver lines a → IsBlockmapOver lines b → a ≡ b
one_blockmap lines a b p q =
    let f = p.laid_out in
    let g = q.laid_out in
    let lists = one_lists lines (grid_of lines) f.lists g.lists f.are_lists g.are_lists in
    let words = f.words_are ∙ ap (blockmap_words (grid_of lines)) lists ∙ sym g.words_are in
    p.bytes_are ∙ ap word_bytes words ∙ sym q.bytes_are

pub one_level : (m : Tables) (a b : Lumps) → IsBuiltLevel m a → IsBuiltLevel m b → a ≡ b
one_level m a b p q =
    let same = one_build (edges_of m) m.vertices p.tree q.tree p.built q.built in
    let blocks = one_blockmap (map_ends m) p.blockmap q.blockmap p.is_blockmap q.is_blockmap in
    let middle : level_over m p.tree p.blockmap ≡ level_over m q.tree q.blockmap =
    λ i.
    record {
      things = m.things;
      lines = m.lines;
      sides = m.sides;
      vertices = same.vertices i;
      segs = same.segs i;
      subs = same.subs i;
      nodes = same.nodes i;
      sectors = m.sectors;
      reject = no_rejects (length m.sectors);
      blockmap = blocks i;
    } in
    p.is_over ∙ middle ∙ sym q.is_over

one_list : (ms : List Tables) (xs ys : List Lumps) → AreBuiltLevels ms xs → AreBuiltLevels ms ys → xs ≡ ys
one_list [] [] [] a b = refl
one_list [] [] (y ∷ ys) a b = absurd b
one_list [] (x ∷ xs) ys a b = absurd a
one_list (m ∷ ms) [] ys a b = absurd a
one_list (m ∷ ms) (x ∷ xs) [] a b = absurd b
one_list (m ∷ ms) (x ∷ xs) (y ∷ ys) a b =
    let head = one_level m x y a.0 b.0 in
    let rest = one_list ms xs ys a.1 b.1 in
    λ i. head i ∷ rest i

pub one_wad : (ms : List Tables) (a b : List ℕ) → HoldsOnly ms a → HoldsOnly ms b → a ≡ b
one_wad ms a b p q =
    let same = one_list ms p.levels q.levels p.built q.built in
    p.bytes ∙ ap (λ (ls : List Lumps). wad_bytes (all_lumps (parts_under ms ls))) same ∙ sym q.bytes
