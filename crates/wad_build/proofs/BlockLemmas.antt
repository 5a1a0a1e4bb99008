-- The words of a built blockmap read back, and its lists are in range.
use Rattle.std.proofs.Common.{◌≡◌, ◌∙◌, refl, sym, ap, subst, ℕ, zero, suc, ◌+◌, ◌*◌, ◌/◌, ◌<◌, ◌≤◌, List, [], ◌∷◌, ◌++◌, length, get_or, take, drop, arith, length-append}
use Rattle.std.specs.Prelude.{All, ◌%◌, flat_map, slice_index}
use Rattle.std.proofs.lemmas.List.{take_at, get_or-take, get_or-drop, length-map}
use Rattle.std.proofs.lemmas.List.Elements.{All-cons, All-get_or, All-from_get_or, Contains-get_or}
use Rattle.std.proofs.lemmas.Option.{slice_get_within}
use Rattle.lump_records.specs.Fields.{unsigned, unsigned_at}
use Rattle.map_tables.proofs.BodyLemmas.{records-back}
use Rattle.tree_blocks.specs.declared.line_ends.LineEnds.{LineEnds}
use Rattle.tree_blocks.specs.declared.grid.Grid.{Grid}
use Rattle.tree_blocks.specs.Blocks.{grid_of, block_count}
use Rattle.tree_blocks.specs.Layout.{list_end, list_words, offset_of, offsets, once, blockmap_words, greatest_offset, word_bytes, BlockStands}
use Rattle.tree_blocks.specs.Lump.{IsBlockmapOver}
use Rattle.wad_levels.specs.Levels.{Lumps}
use Rattle.tree_nodes.specs.InRange.{IsIn}
use Rattle.wad_build.specs.Range.{ListInRange, blocks_in}
use Rattle.wad_build.specs.Words.{words}
use Rattle.wad_build.proofs.LengthLemmas.{lump_length}

-- ---- the bytes of words hold those words

word_back : (w : ℕ) → w < 65536 → w % 256 + 256 * (w / 256 % 256) ≡ w
word_back w h = omega arith

pub words_back : (ws : List ℕ) → All (λ w. w < 65536) ws → words (word_bytes ws) ≡ ws
words_back ws a = records-back (unsigned_at 0) unsigned 2 ws (omega arith) (λ k d h. record { size = refl; back = word_back (get_or ws k d) (a k d h) })

pub words_long : (ws : List ℕ) → length (word_bytes ws) ≡ 2 * length ws
words_long ws = lump_length unsigned 2 ws (λ k d h. refl)

-- ---- a list in the words is in range

stands_inside : (ws : List ℕ) (n at x : ℕ) (rest : List ℕ) → take (suc n) (drop at ws) ≡ x ∷ rest → at < length ws
stands_inside [] n zero x rest e = cc
stands_inside [] n (suc at) x rest e = cc
stands_inside (w ∷ ws) n zero x rest e = omega arith
stands_inside (w ∷ ws) n (suc at) x rest e = let r = stands_inside ws n at x rest e in omega (arith, r)

list_in_range :
    (l : Lumps) (lines : List LineEnds) (ws : List ℕ) (n at : ℕ) → length lines ≡ length l.lines → 0 < length lines → length lines ≤ 32767 → slice_index ws (4 + n) ≡ at → at ≤ greatest_offset
    → BlockStands lines ws n → ListInRange l ws at
list_in_range l lines ws n at long some few e small b =
    let stands = subst (λ (k : ℕ). take (length (list_words b.list)) (drop k ws) ≡ list_words b.list) e b.stands in
    record {
      inside = stands_inside ws (length (b.list ++ list_end ∷ [])) at 0 (b.list ++ list_end ∷ []) stands;
      small = small;
      list = 0 ∷ b.list;
      stands = stands;
      lines = All-cons (IsIn l.lines) 0 b.list (record { among = omega (arith, long, some); small = omega arith })
          (All-from_get_or (IsIn l.lines) b.list 0
          (λ i h. let t = (b.exactly.exactly (get_or b.list i 0)).0 (Contains-get_or b.list i 0 h) in let w = slice_get_within lines (get_or b.list i 0) t.line t.is_line
          in record { among = omega (arith, long, w); small = omega (arith, few, w) }));
    }

-- ---- the layout

blocks_told : (lines : List LineEnds) (lists : List (List ℕ)) → blocks_in (blockmap_words (grid_of lines) lists) ≡ block_count (grid_of lines)
blocks_told lines lists = refl

offsets_taken :
    (lines : List LineEnds) (lists : List (List ℕ)) → length lists ≡ block_count (grid_of lines) → take (block_count (grid_of lines)) (drop 4 (blockmap_words (grid_of lines) lists)) ≡ offsets lists
offsets_taken lines lists e = take_at (offsets lists) (flat_map list_words (once lists)) (block_count (grid_of lines)) (length-map lists (offset_of lists) ∙ e)

words_size : (g : Grid) (lists : List (List ℕ)) → length (blockmap_words g lists) ≡ 4 + length (offsets lists ++ flat_map list_words (once lists))
words_size g lists = omega arith

-- what a level needs to know of the words
pub record AreBlocks (l : Lumps) (ws : List ℕ) : Type 0 where
  pub header : 4 + blocks_in ws ≤ length ws
  pub lists : All (ListInRange l ws) (take (blocks_in ws) (drop 4 ws))

pub blocks_in_range :
    (l : Lumps) (lines : List LineEnds) (bytes : List ℕ) → (b : IsBlockmapOver lines bytes) → length lines ≡ length l.lines → 0 < length lines → length lines ≤ 32767 → AreBlocks l b.words
blocks_in_range l lines bytes b long some few =
    let o = b.laid_out in
    let c = o.are_lists.count in
    let told : blocks_in b.words ≡ block_count (grid_of lines) = ap blocks_in o.words_are ∙ blocks_told lines o.lists in
    let taken : take (block_count (grid_of lines)) (drop 4 b.words)
    ≡ offsets o.lists = ap (λ (ws : List ℕ). take (block_count (grid_of lines)) (drop 4 ws)) o.words_are ∙ offsets_taken lines o.lists c in
    let counted = length-map o.lists (offset_of o.lists) in
    let size : length b.words ≡ 4 + length (offsets o.lists ++ flat_map list_words (once o.lists)) = ap length o.words_are ∙ words_size (grid_of lines) o.lists in
    let parts = length-append (offsets o.lists) (flat_map list_words (once o.lists)) in
    record {
      header = omega (arith, told, size, parts, counted, c);
      lists = subst (λ (n : ℕ). All (ListInRange l b.words) (take n (drop 4 b.words))) (sym told)
          (All-from_get_or (ListInRange l b.words) (take (block_count (grid_of lines)) (drop 4 b.words)) 0
          (λ i h.
          let here : i < length (offsets o.lists) = omega (arith, h, ap length taken) in
          let within : i < block_count (grid_of lines) = omega (arith, here, counted, c) in
          let is : slice_index b.words (4 + i)
          ≡ get_or (take (block_count (grid_of lines)) (drop 4 b.words)) i 0 = sym (get_or-take (block_count (grid_of lines)) (drop 4 b.words) i 0 within ∙ get_or-drop 4 b.words i 0) in
          let fits : get_or (offsets o.lists) i 0 ≤ greatest_offset = All-get_or (λ at. at ≤ greatest_offset) (offsets o.lists) i 0 here o.fit in
          let same : get_or (take (block_count (grid_of lines)) (drop 4 b.words)) i 0 ≡ get_or (offsets o.lists) i 0 = ap (λ (xs : List ℕ). get_or xs i 0) taken in
          list_in_range l lines b.words i (get_or (take (block_count (grid_of lines)) (drop 4 b.words)) i 0) long some few is (omega (arith, same, fits)) (b.lists.each i within)));
    }
