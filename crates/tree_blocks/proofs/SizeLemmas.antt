-- The length of the lump, and that a block has one list.
use Rattle.std.proofs.Common.{◌≡◌, refl, sym, ap, ◌∙◌, subst, ℕ, zero, suc, ◌+◌, ◌<◌, ◌≤◌, List, [], ◌∷◌, ◌++◌, length, get_or, arith, length-append}
use Rattle.std.specs.Prelude.{All, flat_map, slice_index, map}
use Rattle.std.proofs.lemmas.Grind.{flat_map-append}
use Rattle.lump_records.specs.Fields.{unsigned}
use Rattle.std.proofs.lemmas.List.{length-map, get_or-map}
use Rattle.std.proofs.lemmas.Simd.{map-map}
use Rattle.std.proofs.lemmas.List.Elements.{All-get_or, All-from_get_or, All-map, Contains-get_or}
use Rattle.std.proofs.lemmas.Option.{slice_get_within}
use Rattle.std.proofs.Math.Nat.{le-mul_of_pos_right}
use Rattle.tree_blocks.specs.declared.line_ends.LineEnds.{LineEnds}
use Rattle.tree_blocks.specs.declared.grid.Grid.{Grid}
use Rattle.tree_blocks.specs.Blocks.{IsBlockList, AreBlockLists, block_count, grid_of}
use Rattle.tree_blocks.specs.Layout.{list_end, list_words, starts, first_list, once, place_in, offset_of, offsets, header, blockmap_words, OffsetsFit, greatest_offset, word_bytes}
use Rattle.tree_blocks.proofs.OnceLemmas.{served, place_within, place_equal}
use Rattle.tree_blocks.proofs.OffsetLemmas.{words_before, start_at, words_more}
use Rattle.tree_blocks.proofs.LayoutLemmas.{length-starts}
use Rattle.tree_blocks.proofs.RisingLemmas.{rising_short, rising_one}

-- a block has one list
pub one_list : (lines : List LineEnds) (g : Grid) (n : ℕ) (a b : List ℕ) → IsBlockList lines g n a → IsBlockList lines g n b → a ≡ b
one_list lines g n a b p q =
    rising_one a b p.rising q.rising (λ k c. (q.exactly k).1 ((p.exactly k).0 c)) (λ k c. (p.exactly k).1 ((q.exactly k).0 c))

same_lists : (a b : List (List ℕ)) → length a ≡ length b → ((n : ℕ) → n < length a → get_or a n [] ≡ get_or b n []) → a ≡ b
same_lists [] [] e h = refl
same_lists [] (y ∷ ys) e h = absurd (omega arith)
same_lists (x ∷ xs) [] e h = absurd (omega arith)
same_lists (x ∷ xs) (y ∷ ys) e h =
    let f : x ≡ y = h 0 (omega arith) in
    let r : xs ≡ ys = same_lists xs ys (omega arith) (λ n k. h (suc n) (omega arith)) in
    cc

-- all blocks together have one list of lists
pub one_lists : (lines : List LineEnds) (g : Grid) (a b : List (List ℕ)) → AreBlockLists lines g a → AreBlockLists lines g b → a ≡ b
one_lists lines g a b p q =
    let e = p.count in
    let f = q.count in
    same_lists a b (omega (arith, e, f)) (λ n h. one_list lines g n (get_or a n []) (get_or b n []) (p.each n h) (q.each n (omega (arith, e, f, h))))

-- a block's list has at most all lines
list_short : (lines : List LineEnds) (g : Grid) (n : ℕ) (list : List ℕ) → IsBlockList lines g n list → length list ≤ length lines
list_short lines g n list p =
    rising_short list (length lines) p.rising
    (All-from_get_or (λ j. j < length lines) list 0 (λ i h. let t = (p.exactly (get_or list i 0)).0 (Contains-get_or list i 0 h) in slice_get_within lines (get_or list i 0) t.line t.is_line))

flat_words : (lists : List (List ℕ)) → length (flat_map list_words lists) ≡ words_before lists (length lists)
flat_words [] = refl
flat_words (list ∷ lists) = length-append (list_words list) (flat_map list_words lists) ∙ ap (λ (m : ℕ). length (list_words list) + m) (flat_words lists)

-- the written lists end soon after the last offset
written_short :
    (lists : List (List ℕ)) (most : ℕ) → ((n : ℕ) → n < length lists → length (get_or lists n []) ≤ most) → OffsetsFit lists → (k : ℕ) → k < length (once lists)
    → first_list lists + words_before (once lists) (k + 1) ≤ greatest_offset + most + 2
written_short lists most short fit k h =
    let s = served lists k h in
    let place = s.place in
    let long = length-map lists (offset_of lists) in
    let fits : get_or (offsets lists) s.block 0 ≤ greatest_offset = All-get_or (λ at. at ≤ greatest_offset) (offsets lists) s.block 0 (let a = s.among in omega (arith, a, long)) fit in
    let is = get_or-map (offset_of lists) lists s.block [] 0 s.among in
    let there : offset_of lists (get_or lists s.block []) ≡ get_or (starts (first_list lists) (once lists)) k 0 = ap (λ (i : ℕ). get_or (starts (first_list lists) (once lists)) i 0) s.place in
    let start = start_at (first_list lists) (once lists) k h in
    let more = words_more (once lists) k h in
    let equal : get_or (once lists) k [] ≡ get_or lists s.block [] = ap (λ (i : ℕ). get_or (once lists) i []) (sym s.place) ∙ place_equal lists s.block s.among in
    let len : length (get_or (once lists) k []) ≡ length (get_or lists s.block []) = ap length equal in
    let few = short s.block s.among in
    let words = length-append (get_or (once lists) k []) (list_end ∷ []) in
    omega (arith, fits, is, there, start, more, len, few, words)

words_short :
    (g : Grid) (lists : List (List ℕ)) (most : ℕ) → 0 < length lists → ((n : ℕ) → n < length lists → length (get_or lists n []) ≤ most) → OffsetsFit lists
    → length (blockmap_words g lists) ≤ greatest_offset + most + 2
words_short g lists most some short fit =
    let p = place_within lists 0 some in
    let w = written_short lists most short fit in
    let long = length-map lists (offset_of lists) in
    let a = length-append (header g ++ offsets lists) (flat_map list_words (once lists)) in
    let b = length-append (header g) (offsets lists) in
    let f = flat_words (once lists) in
    last (length (once lists)) refl (omega (arith, p)) w a b f long
  where
    last : (n : ℕ) → length (once lists) ≡ n → 0 < n → ((k : ℕ) → k < length (once lists) → first_list lists + words_before (once lists) (k + 1) ≤ greatest_offset + most + 2)
        → length (blockmap_words g lists) ≡ length (header g ++ offsets lists) + length (flat_map list_words (once lists)) → length (header g ++ offsets lists) ≡ 4 + length (offsets lists)
        → length (flat_map list_words (once lists)) ≡ words_before (once lists) (length (once lists)) → length (offsets lists) ≡ length lists
        → length (blockmap_words g lists) ≤ greatest_offset + most + 2
    last zero e h w a b f long = absurd (omega arith)
    last (suc k) e h w a b f long =
        let up : k + 1 ≡ length (once lists) = omega (arith, e) in
        let s : first_list lists + words_before (once lists) (k + 1) ≤ greatest_offset + most + 2 = w k (omega (arith, e)) in
        let t : words_before (once lists) (k + 1) ≡ words_before (once lists) (length (once lists)) = ap (words_before (once lists)) up in
        omega (arith, a, b, f, long, s, t)

-- the whole lump of a map's lines
pub blockmap_short :
    (lines : List LineEnds) (g : Grid) (lists : List (List ℕ)) → length lines ≤ 32767 → 0 < block_count g → AreBlockLists lines g lists → OffsetsFit lists → length (blockmap_words g lists) ≤ 65536
blockmap_short lines g lists few some a fit =
    let e = a.count in
    let s = words_short g lists (length lines) (omega (arith, e)) (λ n h. list_short lines g n (get_or lists n []) (a.each n h)) fit in
    omega (arith, s, few)

-- ---- the layout from its parts

-- the offsets are the starts at the indices of the blocks' lists
offsets_are : (lists : List (List ℕ)) → map (λ place. slice_index (starts (first_list lists) (once lists)) place) (map (place_in (once lists)) lists) ≡ offsets lists
offsets_are lists = map-map (λ place. slice_index (starts (first_list lists) (once lists)) place) (place_in (once lists)) lists

pub laid_out :
    (g : Grid) (lists keys : List (List ℕ)) (b0 b1 b2 b3 places ss : List ℕ) → b0 ≡ [] → b1 ≡ b0 ++ word_bytes (header g) → places ≡ map (place_in (once lists)) lists
    → ss ≡ starts (first_list lists) (once lists) → keys ≡ once lists → b2 ≡ b1 ++ word_bytes (map (λ place. slice_index ss place) places) → b3 ≡ b2 ++ word_bytes (flat_map list_words keys)
    → b3 ≡ word_bytes (blockmap_words g lists)
laid_out g lists keys b0 b1 b2 b3 places ss e0 e1 p s k e2 e3 =
    e3
    ∙ ap (λ (ks : List (List ℕ)). b2 ++ word_bytes (flat_map list_words ks)) k
    ∙ ap (λ (b : List ℕ). b ++ word_bytes (flat_map list_words (once lists))) (second ∙ sym (flat_map-append unsigned (header g) (offsets lists)))
    ∙ sym (flat_map-append unsigned (header g ++ offsets lists) (flat_map list_words (once lists)))
  where
    first : b1 ≡ word_bytes (header g)
    first = e1 ∙ ap (λ (b : List ℕ). b ++ word_bytes (header g)) e0

    their : map (λ place. slice_index ss place) places ≡ offsets lists
    their =
        ap (λ (t : List ℕ). map (λ place. slice_index t place) places) s
        ∙ ap (map (λ place. slice_index (starts (first_list lists) (once lists)) place)) p
        ∙ offsets_are lists

    second : b2 ≡ word_bytes (header g) ++ word_bytes (offsets lists)
    second =
        e2
        ∙ ap (λ (b : List ℕ). b ++ word_bytes (map (λ place. slice_index ss place) places)) first
        ∙ ap (λ (ws : List ℕ). word_bytes (header g) ++ word_bytes ws) their

abbrev Fits : ℕ → Type 0
Fits at = at ≤ greatest_offset

-- if all starts fit, so do the offsets

pub offsets_fit : (lists keys : List (List ℕ)) → keys ≡ once lists → All (λ at. at ≤ greatest_offset) (starts (first_list lists) keys) → OffsetsFit lists
offsets_fit lists keys k a =
    let fits : All Fits (starts (first_list lists) (once lists)) = subst (λ (ks : List (List ℕ)). All Fits (starts (first_list lists) ks)) k a in
    All-map Fits (offset_of lists) lists
    (All-from_get_or (λ list. Fits (offset_of lists list)) lists []
    (λ n h. let w = place_within lists n h in let l = length-starts (first_list lists) (once lists)
    in All-get_or Fits (starts (first_list lists) (once lists)) (place_in (once lists) (get_or lists n [])) 0 (omega (arith, w, l)) fits))

-- and conversely, since each written list is some block's
pub starts_fit : (lists keys : List (List ℕ)) → keys ≡ once lists → OffsetsFit lists → All (λ at. at ≤ greatest_offset) (starts (first_list lists) keys)
starts_fit lists keys k fit =
    subst (λ (ks : List (List ℕ)). All Fits (starts (first_list lists) ks)) (sym k)
    (All-from_get_or Fits (starts (first_list lists) (once lists)) 0 (λ i h. at i (let l = length-starts (first_list lists) (once lists) in omega (arith, h, l))))
  where
    at : (i : ℕ) → i < length (once lists) → get_or (starts (first_list lists) (once lists)) i 0 ≤ greatest_offset
    at i h =
        let s = served lists i h in
        let a = s.among in
        let long = length-map lists (offset_of lists) in
        let fits : get_or (offsets lists) s.block 0 ≤ greatest_offset = All-get_or Fits (offsets lists) s.block 0 (omega (arith, a, long)) fit in
        let is = get_or-map (offset_of lists) lists s.block [] 0 s.among in
        let there : offset_of lists (get_or lists s.block []) ≡ get_or (starts (first_list lists) (once lists)) i 0 = ap (λ (j : ℕ). get_or (starts (first_list lists) (once lists)) j 0) s.place in
        omega (arith, fits, is, there)

-- the indices are among the starts
pub places_within :
    (lists keys : List (List ℕ)) (places ss : List ℕ) → places ≡ map (place_in (once lists)) lists → ss ≡ starts (first_list lists) (once lists) → All (λ place. place < length ss) places
places_within lists keys places ss p s =
    subst (λ (ps : List ℕ). All (λ place. place < length ss) ps) (sym p)
    (All-map (λ place. place < length ss) (place_in (once lists)) lists
    (All-from_get_or (λ list. place_in (once lists) list < length ss) lists []
    (λ n h. let w = place_within lists n h in let l = length-starts (first_list lists) (once lists) in let e : length ss ≡ length (starts (first_list lists) (once lists)) = ap length s
    in omega (arith, w, l, e))))

-- a grid over lines has a block
pub some_block : (lines : List LineEnds) (g : Grid) → g ≡ grid_of lines → 0 < block_count g
some_block lines g e =
    let rows : 0 < (grid_of lines).rows = omega arith in
    let most = le-mul_of_pos_right (grid_of lines).columns rows in
    let columns : 0 < (grid_of lines).columns = omega arith in
    let some : 0 < block_count (grid_of lines) = omega (arith, most, columns) in
    subst (λ (k : Grid). 0 < block_count k) (sym e) some
