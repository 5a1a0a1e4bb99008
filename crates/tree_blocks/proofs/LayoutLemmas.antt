-- The lump lists each block's lines.
use Rattle.std.proofs.Common.{◌≡◌, ◌≢◌, refl, sym, ap, ◌∙◌, subst, ℕ, zero, suc, ◌+◌, ◌<◌, ◌≤◌, List, [], ◌∷◌, ◌++◌, length, take, drop, get_or, length-append, append_assoc, arith}
use Rattle.std.proofs.Common.{Bool, false}
use Rattle.std.specs.Prelude.{All, flat_map, ◌==◌}
use Rattle.std.proofs.lemmas.Bool.Decides.{nat_tests}
use Rattle.std.proofs.lemmas.List.{length-map, get_or-map}
use Rattle.tree_blocks.specs.declared.line_ends.LineEnds.{LineEnds}
use Rattle.tree_blocks.specs.declared.grid.Grid.{Grid}
use Rattle.tree_blocks.specs.declared.error.BlockmapError.{BlockmapError}
use Rattle.tree_blocks.specs.declared.error.BlockmapError.TheVariants.{NothingToBuild, BlockmapTooLarge, OutOfMemory}
use Rattle.tree_blocks.specs.Lump.{IsBlockmapOver, RefusesBlockmapOver}
use Rattle.tree_blocks.specs.Blocks.{grid_of, block_count, AreBlockLists}
use Rattle.tree_blocks.specs.Layout.{list_words, starts, first_list, once, place_in, offset_of, offsets, header, blockmap_words, HasWordsAt, BlockStands, ListsBlocks, OffsetsFit, word_bytes}
use Rattle.tree_blocks.proofs.OnceLemmas.{place_within, place_equal}

drop_front : (xs ys : List ℕ) → drop (length xs) (xs ++ ys) ≡ ys
drop_front [] ys = refl
drop_front (x ∷ xs) ys = drop_front xs ys

take_front : (xs ys : List ℕ) → take (length xs) (xs ++ ys) ≡ xs
take_front [] ys = refl
take_front (x ∷ xs) ys = ap (λ (zs : List ℕ). x ∷ zs) (take_front xs ys)

get_front : (xs ys : List ℕ) (n : ℕ) → n < length xs → get_or (xs ++ ys) n 0 ≡ get_or xs n 0
get_front [] ys n h = absurd (omega arith)
get_front (x ∷ xs) ys zero h = refl
get_front (x ∷ xs) ys (suc n) h = get_front xs ys n (omega arith)

pub length-starts : (at : ℕ) (lists : List (List ℕ)) → length (starts at lists) ≡ length lists
length-starts at [] = refl
length-starts at (list ∷ lists) = ap suc (length-starts (at + length (list_words list)) lists)

-- each list is at its start
pub starts_stand :
    (front : List ℕ) (at : ℕ) (lists : List (List ℕ)) → length front ≡ at → (n : ℕ) → n < length lists
    → HasWordsAt (front ++ flat_map list_words lists) (get_or (starts at lists) n 0) (list_words (get_or lists n []))
starts_stand front at [] e n h = absurd (omega arith)
starts_stand front at (list ∷ lists) e zero h =
    let w : List ℕ = list_words list in
    let rest : List ℕ = flat_map list_words lists in
    subst (λ (k : ℕ). take (length (list_words list)) (drop k (front ++ (list_words list ++ flat_map list_words lists))) ≡ list_words list) e
    (ap (λ (zs : List ℕ). take (length (list_words list)) zs) (drop_front front (list_words list ++ flat_map list_words lists)) ∙ take_front (list_words list) (flat_map list_words lists))
starts_stand front at (list ∷ lists) e (suc n) h =
    let k = length-append front (list_words list) in
    let i = starts_stand (front ++ list_words list) (at + length (list_words list)) lists (k ∙ ap (λ (m : ℕ). m + length (list_words list)) e) n (omega arith) in
    subst (λ (zs : List ℕ). HasWordsAt zs (get_or (starts (at + length (list_words list)) lists) n 0) (list_words (get_or lists n [])))
    (append_assoc front (list_words list) (flat_map list_words lists)) i

offset_word : (g : Grid) (offsets rest : List ℕ) (n : ℕ) → n < length offsets → get_or (header g ++ offsets ++ rest) (4 + n) 0 ≡ get_or offsets n 0
offset_word g offsets rest n h =
    let k : 4 + n ≡ suc (suc (suc (suc n))) = omega arith in
    ap (λ (m : ℕ). get_or (header g ++ offsets ++ rest) m 0) k ∙ get_front offsets rest n h

-- the words of the lump list each block's lines
pub lists_blocks : (lines : List LineEnds) (lists : List (List ℕ)) → AreBlockLists lines (grid_of lines) lists → ListsBlocks lines (blockmap_words (grid_of lines) lists)
lists_blocks lines lists a = record { grid = refl; each = each }
  where
    each : (n : ℕ) → n < block_count (grid_of lines) → BlockStands lines (blockmap_words (grid_of lines) lists) n
    each n h =
        let c = a.count in
        let lt : n < length lists = omega arith in
        let long = length-map lists (offset_of lists) in
        let lo : n < length (offsets lists) = omega (arith, long) in
        let front : length (header (grid_of lines) ++ offsets lists) ≡ first_list lists = length-append (header (grid_of lines)) (offsets lists) ∙ ap (λ (m : ℕ). 4 + m) long in
        let there = starts_stand (header (grid_of lines) ++ offsets lists) (first_list lists) (once lists) front (place_in (once lists) (get_or lists n [])) (place_within lists n lt) in
        let same_list = subst (λ (x : List ℕ). HasWordsAt (blockmap_words (grid_of lines) lists) (offset_of lists (get_or lists n [])) (list_words x)) (place_equal lists n lt) there in
        let at_offset = offset_word (grid_of lines) (offsets lists) (flat_map list_words (once lists)) n lo ∙ get_or-map (offset_of lists) lists n [] 0 lt in
        record {
          list = get_or lists n [];
          exactly = a.each n lt;
          stands = subst (λ (k : ℕ). HasWordsAt (blockmap_words (grid_of lines) lists) k (list_words (get_or lists n []))) (sym at_offset) same_list;
        }

-- ---- the outcomes
pub blockmap_found :
    (lines : List LineEnds) (g : Grid) (lists : List (List ℕ)) (bytes : List ℕ) → lines ≢ [] → g ≡ grid_of lines → AreBlockLists lines g lists → length (blockmap_words g lists) ≤ 65536
    → All (λ (w : ℕ). w < 65536) (blockmap_words g lists) → bytes ≡ word_bytes (blockmap_words g lists) → OffsetsFit lists → IsBlockmapOver lines bytes
blockmap_found lines g lists bytes some e a short bits b f =
    let l : AreBlockLists lines (grid_of lines) lists = subst (λ (h : Grid). AreBlockLists lines h lists) e a in
    record {
      some_line = some;
      words = blockmap_words (grid_of lines) lists;
      bytes_are = b ∙ ap (λ (h : Grid). word_bytes (blockmap_words h lists)) e;
      sixteen_bits = subst (λ (h : Grid). All (λ (w : ℕ). w < 65536) (blockmap_words h lists)) e bits;
      lists = lists_blocks lines lists l;
      laid_out = record { lists = lists; are_lists = l; words_are = refl; fit = f };
      short = subst (λ (h : Grid). length (blockmap_words h lists) ≤ 65536) e short;
    }

pub blockmap_refused :
    (lines : List LineEnds) (g : Grid) (lists : List (List ℕ)) (e : BlockmapError) → lines ≢ [] → g ≡ grid_of lines → AreBlockLists lines g lists → (e ≡ BlockmapTooLarge → OffsetsFit lists → ⊥)
    → (e ≡ NothingToBuild → ⊥) → RefusesBlockmapOver lines e
blockmap_refused lines g lists NothingToBuild some e a large nothing = absurd (nothing refl)
blockmap_refused lines g lists BlockmapTooLarge some e a large nothing =
    (some, record { lists = lists; are_lists = subst (λ (h : Grid). AreBlockLists lines h lists) e a; too_large = large refl })
blockmap_refused lines g lists OutOfMemory some e a large nothing = tt

pub some_line : {X : Type 0} (xs : List X) (b : Bool) → b ≡ (length xs == 0) → b ≡ false → xs ≢ []
some_line xs b e f h = let k = ap length h in grind (arith, nat_tests)
