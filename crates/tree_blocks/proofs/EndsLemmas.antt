-- The ends of a map's lines, line by line.
use Rattle.std.proofs.Common.{◌≡◌, ◌∙◌, sym, ap, ℕ, ◌+◌, ◌<◌, ◌≤◌, List, [], ◌∷◌, ◌++◌, length, map, take, arith}
use Rattle.std.specs.Prelude.{slice_get, Some, get_or}
use Rattle.std.proofs.lemmas.List.{take_more, take_all, map-append, length-map}
use Rattle.std.proofs.lemmas.Option.{slice_get-get_or, slice_get_within, get_or_from_slice_get}
use Rattle.lump_records.specs.declared.records.Line.{Line}
use Rattle.lump_records.specs.declared.records.Vertex.{Vertex}
use Rattle.tree_blocks.specs.declared.line_ends.LineEnds.{LineEnds}
use Rattle.tree_blocks.specs.Blocks.{ends_in}

pub ends_more :
    (vs : List Vertex) (ls : List Line) (n : ℕ) (line : Line) (old : List LineEnds) (e : LineEnds) → slice_get ls n ≡ Some line → e ≡ ends_in vs line → old ≡ map (ends_in vs) (take n ls)
    → old ++ e ∷ [] ≡ map (ends_in vs) (take (n + 1) ls)
ends_more vs ls n line old e at is so_far =
    let h = slice_get_within ls n line at in
    let here : get_or ls n line ≡ line = get_or_from_slice_get ls n line line at in
    let more : take (n + 1) ls ≡ take n ls ++ line ∷ [] = take_more ls n line h ∙ ap (λ (l : Line). take n ls ++ l ∷ []) here in
    ap (λ (es : List LineEnds). es ++ e ∷ []) so_far
    ∙ ap (λ (x : LineEnds). map (ends_in vs) (take n ls) ++ x ∷ []) is
    ∙ sym (map-append (ends_in vs) (take n ls) (line ∷ []))
    ∙ ap (map (ends_in vs)) (sym more)

pub no_gap : (ls : List Line) (n : ℕ) → n < length ls → ((line : Line) → slice_get ls n ≡ Some line → ⊥) → ⊥
no_gap [] n h none = absurd (omega arith)
no_gap (l ∷ ls) n h none = none (get_or (l ∷ ls) n l) (slice_get-get_or (l ∷ ls) n l h)

pub ends_all : (vs : List Vertex) (ls : List Line) (n : ℕ) (es : List LineEnds) → length ls ≤ n → es ≡ map (ends_in vs) (take n ls) → es ≡ map (ends_in vs) ls
ends_all vs ls n es h so_far = so_far ∙ ap (map (ends_in vs)) (take_all n ls h)

pub ends_few : (vs : List Vertex) (ls : List Line) (es : List LineEnds) → es ≡ map (ends_in vs) ls → length es ≡ length ls
ends_few vs ls es e = ap length e ∙ length-map ls (ends_in vs)
