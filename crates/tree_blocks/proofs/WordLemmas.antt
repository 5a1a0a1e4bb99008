-- Each word of the lump has sixteen bits.
use Rattle.std.proofs.Common.{sym, ap, ◌∙◌, subst, ℕ, suc, ◌<◌, ◌≤◌, ◌^◌, ℤ, List, [], ◌∷◌, ◌++◌, length, get_or, arith, rules, FitsSigned}
use Rattle.std.specs.Prelude.{All, flat_map}
use Rattle.std.specs.Int.{w16, cast_unsigned}
use Rattle.std.proofs.lemmas.List.Elements.{All-nil, All-cons, All-append, All-from_get_or, Contains-get_or}
use Rattle.std.proofs.lemmas.Option.{slice_get_within}
use Rattle.tree_blocks.specs.declared.line_ends.LineEnds.{LineEnds}
use Rattle.tree_blocks.specs.declared.grid.Grid.{Grid}
use Rattle.tree_blocks.specs.Blocks.{IsBlockList, AreBlockLists, IsGrid}
use Rattle.tree_blocks.specs.Layout.{list_end, list_words, once, offsets, header, blockmap_words, OffsetsFit}
use Rattle.tree_blocks.proofs.OnceLemmas.{served, place_equal}

abbrev pub IsWord : ℕ → Type 0
IsWord w = w < 65536

unsigned_word : (z : ℤ) → FitsSigned w16 z → cast_unsigned w16 z < 2 ^ 16
unsigned_word z fits = search rules

short_word : (z : ℤ) → FitsSigned w16 z → IsWord (cast_unsigned w16 z)
short_word z fits = let w = unsigned_word z fits in omega (arith, w)

header_words : (g : Grid) → IsGrid g → FitsSigned w16 g.left → FitsSigned w16 g.bottom → All IsWord (header g)
header_words g h left bottom =
    let c = h.columns in
    let r = h.rows in
    let columns : IsWord g.columns = omega (arith, c) in
    let rows : IsWord g.rows = omega (arith, r) in
    All-cons IsWord (cast_unsigned w16 g.left) (cast_unsigned w16 g.bottom ∷ g.columns ∷ g.rows ∷ []) (short_word g.left left)
    (All-cons IsWord (cast_unsigned w16 g.bottom) (g.columns ∷ g.rows ∷ []) (short_word g.bottom bottom)
    (All-cons IsWord g.columns (g.rows ∷ []) columns (All-cons IsWord g.rows [] rows (All-nil IsWord))))

-- a line's number is one
list_is_words : (lines : List LineEnds) (g : Grid) (n : ℕ) (list : List ℕ) → length lines ≤ 32767 → IsBlockList lines g n list → All IsWord (list_words list)
list_is_words lines g n list few p =
    All-cons IsWord 0 (list ++ list_end ∷ []) (omega arith)
    (All-append IsWord list (list_end ∷ [])
    (All-from_get_or IsWord list 0
    (λ i h. let t = (p.exactly (get_or list i 0)).0 (Contains-get_or list i 0 h) in let w = slice_get_within lines (get_or list i 0) t.line t.is_line in omega (arith, w, few)))
    (All-cons IsWord list_end [] (omega arith) (All-nil IsWord)))

flat_is_words : (lists : List (List ℕ)) → ((k : ℕ) → k < length lists → All IsWord (list_words (get_or lists k []))) → All IsWord (flat_map list_words lists)
flat_is_words [] each = All-nil IsWord
flat_is_words (list ∷ lists) each =
    All-append IsWord (list_words list) (flat_map list_words lists) (each 0 (omega arith)) (flat_is_words lists (λ k h. each (suc k) (omega (arith, h))))

offsets_are_words : (lists : List (List ℕ)) → OffsetsFit lists → All IsWord (offsets lists)
offsets_are_words lists fit = λ k d h. let f = fit k d h in omega (arith, f)

-- a written list is that of some block
written_is : (lists : List (List ℕ)) (P : List ℕ → Type 0) → ((n : ℕ) → n < length lists → P (get_or lists n [])) → (k : ℕ) → k < length (once lists) → P (get_or (once lists) k [])
written_is lists P each k h =
    let s = served lists k h in
    let e = ap (λ (i : ℕ). get_or (once lists) i []) (sym s.place) ∙ place_equal lists s.block s.among in
    subst P (sym e) (each s.block s.among)

pub words_have_sixteen_bits :
    (lines : List LineEnds) (g : Grid) (lists : List (List ℕ)) → length lines ≤ 32767 → IsGrid g → FitsSigned w16 g.left → FitsSigned w16 g.bottom → AreBlockLists lines g lists → OffsetsFit lists
    → All IsWord (blockmap_words g lists)
words_have_sixteen_bits lines g lists few h left bottom a fit =
    All-append IsWord (header g ++ offsets lists) (flat_map list_words (once lists))
    (All-append IsWord (header g) (offsets lists) (header_words g h left bottom) (offsets_are_words lists fit))
    (flat_is_words (once lists) (written_is lists (λ (list : List ℕ). All IsWord (list_words list)) (λ n b. list_is_words lines g n (get_or lists n []) few (a.each n b))))
