-- What hinders a level without its lines of no length.
use Rattle.std.proofs.Common.{◌≡◌, ◌∙◌, refl, sym, ap, ℕ, suc, ◌+◌, Bool, true, false, not, ◌||◌, cond, nat_eq, List, [], ◌∷◌, length, take, Option, Some, None, arith}
use Rattle.std.specs.Prelude.{filter, position}
use Rattle.std.specs.List.{position_from}
use Rattle.std.specs.Option.{option_map, option_or}
use Rattle.std.proofs.lemmas.Iterator.Adapters.{position_from-zero}
use Rattle.std.proofs.lemmas.Option.{none-some}
use Rattle.lump_records.specs.declared.records.Line.{Line}
use Rattle.wad_levels.specs.Drawn.{DrawnLists, has_need, is_item_number, line_hindrance, side_hindrance}
use Rattle.wad_levels.specs.Lengths.{OthersHinderTheRest, has_no_length, number_among, other_line_hindrance, renumbered, with_lengths}
use Rattle.wad_levels.specs.declared.hindrance.Hindrance.{Hindrance}
use Rattle.wad_levels.specs.declared.hindrance.Hindrance.TheVariants.{LineLacks, NoLine, SideSector}
use Rattle.wad_levels.specs.declared.hindrance.LineNeed.{LineNeed}
use Rattle.wad_levels.specs.declared.hindrance.LineNeed.TheVariants.{Vertices, RightSide, LeftSide, SomeLength, Coordinates, AtMostLongest}

-- ---- The first of the lines that stay

shifted : {X : Type 0} (t : X → Bool) (i : ℕ) (xs : List X) → position_from t (i + 1) xs ≡ option_map (λ n. suc n) (position_from t i xs)
shifted t i [] = refl
shifted t i (x ∷ xs) = by (t x) (shifted t (i + 1) xs)
  where
    next : i + 1 ≡ suc i
    next = omega arith

    by : (b : Bool) → position_from t (i + 1 + 1) xs ≡ option_map (λ n. suc n) (position_from t (i + 1) xs)
        → cond b (Some (i + 1)) (position_from t (i + 1 + 1) xs) ≡ option_map (λ n. suc n) (cond b (Some i) (position_from t (i + 1) xs))
    by true e = ap (λ n. Some n) next
    by false e = e

-- one way and another to number what is found
out_number : (f g : ℕ → ℕ) (o : Option ℕ) → ((n : ℕ) → f (suc n) ≡ g n) → option_map g o ≡ option_map f (option_map (λ n. suc n) o)
out_number f g None same = refl
out_number f g (Some n) same = ap (λ k. Some k) (sym (same n))

in_number : (f g : ℕ → ℕ) (o : Option ℕ) → ((n : ℕ) → f (suc n) ≡ suc (g n)) → option_map (λ n. suc n) (option_map g o) ≡ option_map f (option_map (λ n. suc n) o)
in_number f g None same = refl
in_number f g (Some n) same = ap (λ k. Some k) (sym (same n))

-- so many of the numbered ones stay
staying : {X : Type 0} → (X → Bool) → List X → ℕ → ℕ
staying out xs n = length (filter (λ x. not (out x)) (take n xs))

out_next : {X : Type 0} (out : X → Bool) (x : X) (xs : List X) (n : ℕ) → out x ≡ true → staying out (x ∷ xs) (suc n) ≡ staying out xs n
unfolding staying
out_next out x xs n e = rw e refl

in_next : {X : Type 0} (out : X → Bool) (x : X) (xs : List X) (n : ℕ) → out x ≡ false → staying out (x ∷ xs) (suc n) ≡ suc (staying out xs n)
unfolding staying
in_next out x xs n e = rw e refl

none_staying : {X : Type 0} (out : X → Bool) (xs : List X) → 0 ≡ staying out xs 0
unfolding staying
none_staying out [] = refl
none_staying out (x ∷ xs) = refl

-- among those that aren't out, the first that doesn't pass
abbrev first_of_rest : {X : Type 0} → (X → Bool) → (X → Bool) → List X → Option ℕ
first_of_rest out p xs = position_from (λ x. not (p x)) 0 (filter (λ x. not (out x)) xs)

-- among all, the first that isn't out and doesn't pass
abbrev first_of_all : {X : Type 0} → (X → Bool) → (X → Bool) → List X → Option ℕ
first_of_all out p xs = position_from (λ x. not (out x || p x)) 0 xs

first_in : {X : Type 0} (out p : X → Bool) (xs : List X) → first_of_rest out p xs ≡ option_map (staying out xs) (first_of_all out p xs)
first_in out p [] = refl
first_in {X} out p (x ∷ xs) = by (first_in out p xs) (out x) (p x) refl refl
  where
    by : first_of_rest out p xs ≡ option_map (staying out xs) (first_of_all out p xs) → (b c : Bool) → out x ≡ b → p x ≡ c → first_of_rest out p (x ∷ xs) ≡ option_map (staying out (x ∷ xs)) (first_of_all out p (x ∷ xs))
    by so_far true c is pass =
        rw is (so_far ∙ out_number (staying out (x ∷ xs)) (staying out xs) (first_of_all out p xs) (λ n. out_next out x xs n is)
        ∙ ap (option_map (staying out (x ∷ xs))) (sym (shifted (λ y. not (out y || p y)) 0 xs)))
    by so_far false true is pass =
        rw (is, pass) (shifted (λ y. not (p y)) 0 (filter (λ y. not (out y)) xs) ∙ ap (option_map (λ n. suc n)) so_far
        ∙ in_number (staying out (x ∷ xs)) (staying out xs) (first_of_all out p xs) (λ n. in_next out x xs n is)
        ∙ ap (option_map (staying out (x ∷ xs))) (sym (shifted (λ y. not (out y || p y)) 0 xs)))
    by so_far false false is pass = rw (is, pass) (ap (λ n. Some n) (none_staying out (x ∷ xs)))

first_among : (out p : Line → Bool) (xs : List Line) → position (λ x. not (p x)) (filter (λ x. not (out x)) xs)
    ≡ option_map (λ n. length (filter (λ x. not (out x)) (take n xs))) (position (λ x. not (out x || p x)) xs)
unfolding staying
first_among out p xs =
    position_from-zero (λ x. not (p x)) (filter (λ x. not (out x)) xs) ∙ first_in out p xs
    ∙ ap (option_map (staying out xs)) (sym (position_from-zero (λ x. not (out x || p x)) xs))

-- ---- Options

named : (d : DrawnLists) (need : LineNeed) (o : Option ℕ) → option_map (LineLacks need) (option_map (number_among d) o) ≡ option_map (renumbered d) (option_map (LineLacks need) o)
named d need None = refl
named d need (Some n) = refl

side_named : (d : DrawnLists) (o : Option ℕ) → option_map SideSector o ≡ option_map (renumbered d) (option_map SideSector o)
side_named d None = refl
side_named d (Some n) = refl

line_named : (d : DrawnLists) (b : Bool) → cond b (Some NoLine) None ≡ option_map (renumbered d) (cond b (Some NoLine) None)
line_named d true = refl
line_named d false = refl

-- the first of two, and then of those behind
both_mapped : (f : Hindrance → Hindrance) (a b x y : Option Hindrance) → x ≡ option_map f a → y ≡ option_map f b → option_or x y ≡ option_map f (option_or a b)
both_mapped f None b x y is rest = ap (λ o. option_or o y) is ∙ rest
both_mapped f (Some h) b x y is rest = ap (λ o. option_or o y) is

or_assoc : (a b c : Option Hindrance) → option_or (option_or a b) c ≡ option_or a (option_or b c)
or_assoc None b c = refl
or_assoc (Some h) b c = refl

-- ---- A line that stays

line_renumbered : (d : DrawnLists) (need : LineNeed) → line_hindrance (with_lengths d) need ≡ option_map (renumbered d) (other_line_hindrance d need)
line_renumbered d need =
    ap (option_map (LineLacks need)) (first_among (has_no_length d) (has_need d need) d.lines)
    ∙ named d need (position (λ x. not (has_no_length d x || has_need d need x)) d.lines)

-- where the vertices of those that stay are there, each has a length
lengths_there : (d : DrawnLists) (i : ℕ) (xs : List Line) → position_from (λ x. not (has_need d Vertices x)) i (filter (λ x. not (has_no_length d x)) xs) ≡ None
    → position_from (λ x. not (has_need d SomeLength x)) i (filter (λ x. not (has_no_length d x)) xs) ≡ None
lengths_there d i [] none = refl
lengths_there d i (x ∷ xs) none = by (λ j h. lengths_there d j xs h) (has_need d Vertices x) (has_need d SomeLength x) refl refl none
  where
    by : ((j : ℕ) → position_from (λ y. not (has_need d Vertices y)) j (filter (λ y. not (has_no_length d y)) xs) ≡ None
        → position_from (λ y. not (has_need d SomeLength y)) j (filter (λ y. not (has_no_length d y)) xs) ≡ None)
        → (a b : Bool) → has_need d Vertices x ≡ a → has_need d SomeLength x ≡ b
        → position_from (λ y. not (has_need d Vertices y)) i (filter (λ y. not (has_no_length d y)) (x ∷ xs)) ≡ None
        → position_from (λ y. not (has_need d SomeLength y)) i (filter (λ y. not (has_no_length d y)) (x ∷ xs)) ≡ None
    by rest true true e f h = rw (e, f, f) (rest (i + 1) (rw (e, f, e) at h))
    by rest true false e f h = rw (e, f) (rest i (rw (e, f) at h))
    by rest false b e f h = let found : Some i ≡ None = rw (e, e) at h in absurd (none-some i (sym found))

vertices_none : (d : DrawnLists) → line_hindrance (with_lengths d) Vertices ≡ None → line_hindrance (with_lengths d) SomeLength ≡ None
vertices_none d h =
    let keeps = filter (λ x. not (has_no_length d x)) d.lines in
    let there = sym (position_from-zero (λ x. not (has_need d Vertices x)) keeps) ∙ unnamed (position (λ x. not (has_need d Vertices x)) keeps) h in
    ap (option_map (LineLacks SomeLength)) (position_from-zero (λ x. not (has_need d SomeLength x)) keeps ∙ lengths_there d 0 d.lines there)
  where
    unnamed : (o : Option ℕ) → option_map (LineLacks Vertices) o ≡ None → o ≡ None
    unnamed None e = refl
    unnamed (Some n) e = absurd cc

without_some : (v s r q p o : Option Hindrance) → (v ≡ None → q ≡ None) → option_or v (option_or s (option_or r (option_or p (option_or q o)))) ≡ option_or v (option_or s (option_or r (option_or p o)))
without_some None s r q p o h = ap (λ x. option_or s (option_or r (option_or p (option_or x o)))) (h refl)
without_some (Some x) s r q p o h = refl

pub hinders_the_rest : OthersHinderTheRest
hinders_the_rest d =
    let e = with_lengths d in
    let f = renumbered d in
    let v = line_hindrance e Vertices in
    let s = side_hindrance e in
    let r = line_hindrance e RightSide in
    let l = line_hindrance e LeftSide in
    let q = line_hindrance e SomeLength in
    let c = line_hindrance e Coordinates in
    let a = line_hindrance e AtMostLongest in
    let none = cond (nat_eq (length e.lines) 0) (Some NoLine) None in
    let c' = other_line_hindrance d Coordinates in
    let a' = other_line_hindrance d AtMostLongest in
    let l' = other_line_hindrance d LeftSide in
    let r' = other_line_hindrance d RightSide in
    let v' = other_line_hindrance d Vertices in
    let last : option_or a none ≡ option_map f (option_or a' none) =
    both_mapped f a' none a none (line_renumbered d AtMostLongest) (line_named d (nat_eq (length e.lines) 0)) in
    let places = both_mapped f c' (option_or a' none) c (option_or a none) (line_renumbered d Coordinates) last in
    let left = both_mapped f l' (option_or c' (option_or a' none)) l (option_or c (option_or a none)) (line_renumbered d LeftSide) places in
    let right = both_mapped f r' _ r _ (line_renumbered d RightSide) left in
    let sides = both_mapped f (side_hindrance d) _ s _ (side_named d (position (λ x. not (is_item_number x.sector (length d.sectors))) d.sides)) right in
    let all = both_mapped f v' _ v _ (line_renumbered d Vertices) sides in
    or_assoc v (option_or s (option_or r l)) (option_or (option_or q (option_or c a)) none)
    ∙ ap (option_or v) (or_assoc s (option_or r l) (option_or (option_or q (option_or c a)) none))
    ∙ ap (λ o. option_or v (option_or s o)) (or_assoc r l (option_or (option_or q (option_or c a)) none))
    ∙ ap (λ o. option_or v (option_or s (option_or r (option_or l o)))) (or_assoc q (option_or c a) none ∙ ap (option_or q) (or_assoc c a none))
    ∙ without_some v s r q l (option_or c (option_or a none)) (vertices_none d) ∙ all
