-- The shapes that lines define, in their order.
use Rattle.std.proofs.Common.{◌≡◌, ℕ, ◌+◌, ◌<◌, ◌&&◌, Bool, true, false, cond, List, [], ◌∷◌, ◌++◌, length, get_or, take, refl, ap, ap₂, sym, ◌∙◌, arith, Option, Some, None}
use Rattle.std.specs.Prelude.{bytes_eq, nat_lt, slice_get}
use Rattle.std.proofs.lemmas.List.{append_assoc, map-append, take_more}
use Rattle.map_script.specs.Defines.{define_words}
use Rattle.map_script.specs.Words.{text_words}
use Rattle.map_blocks.specs.Blocks.{lines_between, with_places}
use Rattle.map_blocks.specs.Defined as spec
use Rattle.map_blocks.specs.Defined.{in_front_of_shapes, or_this, shape_at, shape_known, shapes_in}
use Rattle.map_blocks.specs.ShapePlaces.{shape_among, shapes_among}
use Rattle.map_blocks.specs.declared.defined.Shape.{Shape}
use Rattle.map_blocks.proofs.PlacedLines.{next_line}

-- ---- The shapes of the lines from a place on

-- a line that defines none
pub not_defined : (lines : List (ℕ × List ℕ)) (i : ℕ) (x : ℕ × List ℕ) → slice_get lines i ≡ Some x → i < length lines → define_words (text_words x.1) ≡ None
    → shapes_in (lines_between (with_places lines) i (length lines)) ≡ shapes_in (lines_between (with_places lines) (i + 1) (length lines))
not_defined lines i x is below none =
    let rest = lines_between (with_places lines) (i + 1) (length lines) in
    ap shapes_in (next_line lines i (length lines) x is below) ∙ ap (λ o. in_front_of_shapes i rest o (shapes_in rest)) none

-- a line that defines one
pub defined_next : (lines : List (ℕ × List ℕ)) (i : ℕ) (x : ℕ × List ℕ) (words : List (List ℕ)) → slice_get lines i ≡ Some x → i < length lines
    → define_words (text_words x.1) ≡ Some words
    → shapes_in (lines_between (with_places lines) i (length lines))
    ≡ shape_at i (lines_between (with_places lines) (i + 1) (length lines)) words ∷ shapes_in (lines_between (with_places lines) (i + 1) (length lines))
defined_next lines i x words is below some =
    let rest = lines_between (with_places lines) (i + 1) (length lines) in
    ap shapes_in (next_line lines i (length lines) x is below) ∙ ap (λ o. in_front_of_shapes i rest o (shapes_in rest)) some

-- one shape more
pub shapes_more : (all : List (ℕ × (ℕ × List ℕ))) (ss new : List Shape) (s : Shape) (t : spec.Shape) (rest : List spec.Shape) → new ≡ ss ++ s ∷ [] → shape_among all s ≡ t
    → shapes_among all new ++ rest ≡ shapes_among all ss ++ t ∷ rest
shapes_more all ss new s t rest more is =
    ap (λ xs. shapes_among all xs ++ rest) more ∙ ap (λ xs. xs ++ rest) (map-append (shape_among all) ss (s ∷ []))
    ∙ append_assoc (shapes_among all ss) (shape_among all s ∷ []) rest ∙ ap (λ u. shapes_among all ss ++ u ∷ rest) is

-- ---- The last one of a name

one_more : (m t : Bool) (x s : spec.Shape) (found : Option spec.Shape) → or_this m x (cond t (Some s) found) ≡ cond t (Some s) (or_this m x found)
one_more m true x s found = refl
one_more m false x s found = refl

known_behind : (ss : List spec.Shape) (s : spec.Shape) (place : ℕ) (name : List ℕ)
    → shape_known (ss ++ s ∷ []) place name ≡ cond (nat_lt s.end place && bytes_eq s.name name) (Some s) (shape_known ss place name)
known_behind [] s place name = refl
known_behind (x ∷ ss) s place name =
    ap (or_this (nat_lt x.end place && bytes_eq x.name name) x) (known_behind ss s place name)
    ∙ one_more (nat_lt x.end place && bytes_eq x.name name) (nat_lt s.end place && bytes_eq s.name name) x s (shape_known ss place name)

pub known_more : (all : List (ℕ × (ℕ × List ℕ))) (ss : List Shape) (i : ℕ) (s : Shape) (place : ℕ) (name : List ℕ) (t : Bool) → s ≡ get_or ss i s → i < length ss
    → t ≡ (nat_lt s.end place && bytes_eq s.name.items name)
    → shape_known (shapes_among all (take (i + 1) ss)) place name ≡ cond t (Some (shape_among all s)) (shape_known (shapes_among all (take i ss)) place name)
known_more all ss i s place name t is below test =
    ap (λ xs. shape_known (shapes_among all xs) place name) (take_more ss i s below ∙ ap (λ x. take i ss ++ x ∷ []) (sym is))
    ∙ ap (λ xs. shape_known xs place name) (map-append (shape_among all) (take i ss) (s ∷ []))
    ∙ known_behind (shapes_among all (take i ss)) (shape_among all s) place name
    ∙ ap (λ b. cond b (Some (shape_among all s)) (shape_known (shapes_among all (take i ss)) place name)) (sym test)
