-- Vertices of a level, each place once.
use Rattle.std.proofs.Common.{◌≡◌, ℕ, zero, suc, ◌+◌, ◌-◌, ◌<◌, ◌≤◌, Bool, true, false, cond, ◌||◌, List, [], ◌∷◌, ◌++◌, length, get_or, take, map, Option, Some, None, All, refl, sym, subst, ap, ◌∙◌, arith, append_assoc, append-nil, inl, inr, length-append, take_all}
use Rattle.std.specs.Prelude.{filter_map, nat_lt, pos, position}
use Rattle.std.specs.List.{cons_option, list_any, position_or_len, range_with_len}
use Rattle.std.specs.Ordering.{int_eq}
use Rattle.std.proofs.lemmas.Bool.{and_from, and_parts, both_ways, cases_lt, false_from_ne_true}
use Rattle.std.proofs.lemmas.Bool.Decides.{Decides-int_eq}
use Rattle.std.proofs.Math.Seq.{get_or-append_seam}
use Rattle.std.proofs.lemmas.List.{get_or-take, get_or_append_left, length-take-le, take_more}
use Rattle.std.proofs.lemmas.List.Elements.{filter_map-append}
use Rattle.std.proofs.lemmas.List.Folds.{list_any-append, list_any_at, list_any_none}
use Rattle.std.proofs.lemmas.List.FromFn.{length-range_with_len, map-range_with_len_more}
use Rattle.std.proofs.lemmas.List.Sums.{fails_before_first, passes_at_first, position_or_len_is}
use Rattle.lump_records.specs.declared.records.Line.{Line}
use Rattle.lump_records.specs.declared.records.Vertex.{Vertex}
use Rattle.map_tables.specs.Faults.{is_place, is_taken}
use Rattle.map_tables.specs.Tables.{Tables}
use Rattle.map_tables.specs.WellFormed.{nth_vertex}
use Rattle.wad_import.proofs.RefusalLemmas.{at_end}
use Rattle.wad_import.specs.Added.{IsBetweenSome}
use Rattle.wad_import.specs.Mended.{linked_line, mended_line}
use Rattle.wad_import.specs.Once.{comes_again, each_once, kept_number, kept_vertex, number_at, place_change}
use Rattle.wad_import.specs.declared.change.Change.TheVariants.{VertexAgain}

-- ---- Places

-- two vertices at one place are one
pub same_place : (v w : Vertex) → is_place v w ≡ true → w ≡ v
same_place v w h =
    let parts = and_parts (int_eq w.x v.x) (int_eq w.y v.y) h in
    λ i. record { x = (Decides-int_eq w.x v.x).0 parts.0 i; y = (Decides-int_eq w.y v.y).0 parts.1 i }

pub own_place : (v : Vertex) → is_place v v ≡ true
own_place v = and_from (int_eq v.x v.x) (int_eq v.y v.y) ((Decides-int_eq v.x v.x).1 refl) ((Decides-int_eq v.y v.y).1 refl)

-- where some item passes, the first one does
position_there : {X : Type 0} (p : X → Bool) (xs : List X) → list_any p xs ≡ true → position_or_len p xs < length xs
position_there p xs h = elim (cases_lt (position_or_len p xs) (length xs)) [
  | inl below ↦ below
  | inr past ↦ absurd (both_ways (list_any p xs) (list_any_none p xs (λ k d l. fails_before_first p xs k d (omega arith))) h)
]

-- ---- One more number

map-same : {X : Type 0} (xs : List X) → map (λ x. x) xs ≡ xs
map-same [] = refl
map-same (x ∷ xs) = ap (λ ys. x ∷ ys) (map-same xs)

pub range_more : (n : ℕ) → range_with_len 0 (n + 1) ≡ range_with_len 0 n ++ n ∷ []
range_more n =
    sym (map-same (range_with_len 0 (n + 1))) ∙ map-range_with_len_more (λ (k : ℕ). k) 0 n n (omega arith)
    ∙ ap (λ ks. ks ++ n ∷ []) (map-same (range_with_len 0 n))

-- what is made of the numbers below one
abbrev pub made : {Y : Type 0} → (ℕ → Option Y) → ℕ → List Y
made h n = filter_map h (range_with_len 0 n)

made_more : {Y : Type 0} (h : ℕ → Option Y) (n : ℕ) → made h (n + 1) ≡ made h n ++ cons_option (h n) []
made_more h n = ap (filter_map h) (range_more n) ∙ filter_map-append h (range_with_len 0 n) (n ∷ [])

pub made_some : {Y : Type 0} (h : ℕ → Option Y) (n : ℕ) (y : Y) → h n ≡ Some y → made h (n + 1) ≡ made h n ++ y ∷ []
made_some h n y is = made_more h n ∙ ap (λ o. made h n ++ cons_option o []) is

pub made_none : {Y : Type 0} (h : ℕ → Option Y) (n : ℕ) → h n ≡ None → made h (n + 1) ≡ made h n
made_none h n is = made_more h n ∙ ap (λ o. made h n ++ cons_option o []) is ∙ append-nil (made h n)

-- ---- The vertices so far

pub again-none : (vs : List Vertex) (n : ℕ) → comes_again vs n ≡ true → kept_vertex vs n ≡ None
again-none vs n h = ap (λ t. cond t None (Some (nth_vertex vs n))) h

pub once-some : (vs : List Vertex) (n : ℕ) → comes_again vs n ≡ false → kept_vertex vs n ≡ Some (nth_vertex vs n)
once-some vs n h = ap (λ t. cond t None (Some (nth_vertex vs n))) h

-- the vertices with numbers below one, each place once
abbrev pub once_to : List Vertex → ℕ → List Vertex
once_to vs n = made (kept_vertex vs) n

or-none : (b : Bool) → b ≡ (b || (false || false))
or-none true = refl
or-none false = refl

-- one more vertex
taken_more : (vs : List Vertex) (n : ℕ) (v : Vertex) → n < length vs → is_taken (once_to vs n) v ≡ is_taken (take n vs) v
    → is_taken (once_to vs (n + 1)) v ≡ is_taken (take (n + 1) vs) v
taken_more vs n v h so_far = by (comes_again vs n) refl
  where
    all : is_taken (take (n + 1) vs) v ≡ (is_taken (take n vs) v || is_taken (nth_vertex vs n ∷ []) v)
    all =
        ap (λ xs. is_taken xs v) (take_more vs n (record { x = pos 0; y = pos 0 }) h)
        ∙ list_any-append (is_place v) (take n vs) (nth_vertex vs n ∷ [])

    here : comes_again vs n ≡ true → (t : Bool) → is_place v (nth_vertex vs n) ≡ t → is_taken (take n vs) v ≡ (is_taken (take n vs) v || (t || false))
    here again true at =
        let taken : is_taken (take n vs) v ≡ true = ap (is_taken (take n vs)) (sym (same_place v (nth_vertex vs n) at)) ∙ again in
        taken ∙ ap (λ t. t || (true || false)) (sym taken)
    here again false at = or-none (is_taken (take n vs) v)

    by : (t : Bool) → comes_again vs n ≡ t → is_taken (once_to vs (n + 1)) v ≡ is_taken (take (n + 1) vs) v
    by true again =
        ap (λ xs. is_taken xs v) (made_none (kept_vertex vs) n (again-none vs n again)) ∙ so_far
        ∙ here again (is_place v (nth_vertex vs n)) refl ∙ sym all
    by false first =
        ap (λ xs. is_taken xs v) (made_some (kept_vertex vs) n (nth_vertex vs n) (once-some vs n first))
        ∙ list_any-append (is_place v) (once_to vs n) (nth_vertex vs n ∷ [])
        ∙ ap (λ t. t || is_taken (nth_vertex vs n ∷ []) v) so_far ∙ sym all

-- a place is taken by them where it is by all below
pub taken_once : (vs : List Vertex) (n : ℕ) (v : Vertex) → n ≤ length vs → is_taken (once_to vs n) v ≡ is_taken (take n vs) v
taken_once vs zero v h = refl
taken_once vs (suc n) v h =
    let next : suc n ≡ n + 1 = omega arith in
    subst (λ k. is_taken (once_to vs k) v ≡ is_taken (take k vs) v) (sym next)
    (taken_more vs n v (omega (arith, h)) (taken_once vs n v (omega (arith, h))))

-- what a map that has them says of the next one
pub again_is : (start m : Tables) (vs : List Vertex) (n : ℕ) (b : Bool) → b ≡ is_taken m.vertices (nth_vertex vs n) → m ≡ record start { vertices = once_to vs n } → n < length vs
    → b ≡ comes_again vs n
again_is start m vs n b said is h = said ∙ ap (λ (t : Tables). is_taken t.vertices (nth_vertex vs n)) is ∙ taken_once vs n (nth_vertex vs n) (omega (arith, h))

-- ---- All vertices

-- each place is one of those that are kept
kept_there : (vs : List Vertex) (n : ℕ) → n < length vs → is_taken (each_once vs) (nth_vertex vs n) ≡ true
kept_there vs n h =
    taken_once vs (length vs) (nth_vertex vs n) (omega arith)
    ∙ ap (λ xs. is_taken xs (nth_vertex vs n)) (take_all (length vs) vs (omega arith))
    ∙ list_any_at (is_place (nth_vertex vs n)) vs n (record { x = pos 0; y = pos 0 }) h (own_place (nth_vertex vs n))

pub kept_within : (vs : List Vertex) (n : ℕ) → n < length vs → kept_number vs n < length (each_once vs)
kept_within vs n h = position_there (is_place (nth_vertex vs n)) (each_once vs) (kept_there vs n h)

-- a vertex stands where the one does that is kept for it
pub kept_place : (vs : List Vertex) (n : ℕ) → n < length vs → nth_vertex (each_once vs) (kept_number vs n) ≡ nth_vertex vs n
kept_place vs n h =
    same_place (nth_vertex vs n) (nth_vertex (each_once vs) (kept_number vs n))
    (passes_at_first (is_place (nth_vertex vs n)) (each_once vs) (record { x = pos 0; y = pos 0 }) (kept_within vs n h))

cons-length : {Y : Type 0} (o : Option Y) (ys : List Y) → length (cons_option o ys) ≤ length ys + 1
cons-length None ys = omega arith
cons-length (Some y) ys = omega arith

filter_map-length : {X Y : Type 0} (h : X → Option Y) (xs : List X) → length (filter_map h xs) ≤ length xs
filter_map-length h [] = omega arith
filter_map-length h (x ∷ xs) =
    let one = cons-length (h x) (filter_map h xs) in
    let rest = filter_map-length h xs in
    omega (arith, one, rest)

pub once_to-length : (vs : List Vertex) (n : ℕ) → length (once_to vs n) ≤ n
once_to-length vs n =
    let all = filter_map-length (kept_vertex vs) (range_with_len 0 n) in
    omega (arith, all, length-range_with_len 0 n)

pub each_once-length : (vs : List Vertex) → length (each_once vs) ≤ length vs
each_once-length vs = once_to-length vs (length vs)

-- ---- Numbers

-- what is made of the first numbers stays in front
record Grows {Y : Type 0} (h : ℕ → Option Y) (n m : ℕ) : Type 0 where
  rest : List Y
  is : made h m ≡ made h n ++ rest

grows : {Y : Type 0} (h : ℕ → Option Y) (n k : ℕ) → Grows h n (n + k)
grows h n zero =
    let same : n + 0 ≡ n = omega arith in
    record { rest = []; is = ap (made h) same ∙ sym (append-nil (made h n)) }
grows h n (suc k) =
    let next : n + suc k ≡ (n + k) + 1 = omega arith in
    let so_far = grows h n k in
    let one = cons_option (h (n + k)) [] in
    record {
      rest = so_far.rest ++ one;
      is = ap (made h) next ∙ made_more h (n + k) ∙ ap (λ ys. ys ++ one) so_far.is ∙ append_assoc (made h n) so_far.rest one;
    }

-- the number of an item behind others that don't pass
seam-number : {X : Type 0} (p : X → Bool) (front rest : List X) (x : X) → list_any p front ≡ false → p x ≡ true → position_or_len p (front ++ x ∷ rest) ≡ length front
seam-number p front rest x none here =
    position_or_len_is p (front ++ x ∷ rest) (length front) x (omega (arith, length-append front (x ∷ rest)))
    (λ k h. ap p (get_or_append_left front (x ∷ rest) x k h)
    ∙ false_from_ne_true (p (get_or front k x)) (λ t. both_ways (list_any p front) none (list_any_at p front k x h t)))
    (λ h. ap p (get_or-append_seam front x rest x) ∙ here)

-- a vertex that doesn't come again has the number of those that are kept before it
pub first_number : (vs : List Vertex) (n : ℕ) → n < length vs → comes_again vs n ≡ false → kept_number vs n ≡ length (once_to vs n)
first_number vs n h first =
    let v = nth_vertex vs n in
    let front = once_to vs n in
    let more = grows (kept_vertex vs) (n + 1) (length vs - (n + 1)) in
    let all : length vs ≡ (n + 1) + (length vs - (n + 1)) = omega (arith, h) in
    let parted : each_once vs ≡ front ++ v ∷ more.rest =
    ap (once_to vs) all ∙ more.is ∙ ap (λ xs. xs ++ more.rest) (made_some (kept_vertex vs) n v (once-some vs n first)) ∙ append_assoc front (v ∷ []) more.rest in
    let none : is_taken front v ≡ false = taken_once vs n v (omega (arith, h)) ∙ first in
    ap (position_or_len (is_place v)) parted ∙ seam-number (is_place v) front more.rest v none (own_place v)

-- one that comes again has the number of the first at its place, which is before it
pub again_before : (vs : List Vertex) (n : ℕ) → n < length vs → comes_again vs n ≡ true → number_at vs (nth_vertex vs n) < n
again_before vs n h again =
    let v = nth_vertex vs n in
    let count = length-take-le n vs (omega (arith, h)) in
    elim (cases_lt (number_at vs v) n) [
      | inl below ↦ below
      | inr past ↦
          let none : All (λ w. is_place v w ≡ false) (take n vs) = λ k d l.
          let within : k < n = omega (arith, count, l) in
          ap (is_place v) (get_or-take n vs k d within) ∙ fails_before_first (is_place v) vs k d (omega (arith, within, past)) in
          absurd (both_ways (comes_again vs n) (list_any_none (is_place v) (take n vs) none) again)
    ]

pub again_number : (vs : List Vertex) (n : ℕ) → n < length vs → comes_again vs n ≡ true → kept_number vs (number_at vs (nth_vertex vs n)) ≡ kept_number vs n
again_number vs n h again =
    let v = nth_vertex vs n in
    let before = again_before vs n h again in
    ap (number_at (each_once vs)) (same_place v (nth_vertex vs (number_at vs v))
    (passes_at_first (is_place v) vs (record { x = pos 0; y = pos 0 }) (omega (arith, before, h))))

-- ---- The first that passes

number_if : {X : Type 0} (p : X → Bool) (xs : List X) (n : ℕ) (t : Bool) → cond t (Some (position_or_len p xs)) None ≡ Some n → n ≡ position_or_len p xs
number_if p xs n true e = cc
number_if p xs n false e = absurd cc

pub number_some : {X : Type 0} (p : X → Bool) (xs : List X) (n : ℕ) → position p xs ≡ Some n → n ≡ position_or_len p xs
number_some p xs n e = number_if p xs n (nat_lt (position_or_len p xs) (length xs)) e

pub number_none : {X : Type 0} (p : X → Bool) (xs : List X) (d : X) → position p xs ≡ None → length xs ≡ position_or_len p xs
number_none p xs d e =
    let past = at_end (position_or_len p xs) (length xs) (nat_lt (position_or_len p xs) (length xs)) refl e in
    sym (position_or_len_is p xs (length xs) d (omega arith) (λ k h. fails_before_first p xs k d (omega (arith, h, past))) (λ h. absurd (omega (arith, h))))

-- ---- What is told of a number

pub told-again : (vs : List Vertex) (n first : ℕ) → comes_again vs n ≡ true → first ≡ number_at vs (nth_vertex vs n) → place_change vs n ≡ Some (VertexAgain n first)
told-again vs n first again is =
    ap (λ t. cond t (Some (VertexAgain n (number_at vs (nth_vertex vs n)))) None) again ∙ ap (λ k. Some (VertexAgain n k)) (sym is)

pub told-none : (vs : List Vertex) (n : ℕ) → comes_again vs n ≡ false → place_change vs n ≡ None
told-none vs n first = ap (λ t. cond t (Some (VertexAgain n (number_at vs (nth_vertex vs n)))) None) first

-- ---- Lines between them

-- lines between vertices that two ways give one number
pub lines_agree : (f g : ℕ → ℕ) (count : ℕ) (xs : List Line) → All (IsBetweenSome count) xs → ((k : ℕ) → k < count → f k ≡ g k)
    → map (linked_line f) xs ≡ map (linked_line g) xs
lines_agree f g count [] all same = refl
lines_agree f g count (x ∷ xs) all same =
    let h = all 0 x (omega arith) in
    let v1 = same x.v1 h.v1 in
    let v2 = same x.v2 h.v2 in
    let rest = lines_agree f g count xs (λ k d l. all (suc k) d (omega arith)) same in
    λ i. record (mended_line x) { v1 = v1 i; v2 = v2 i } ∷ rest i
