-- The edges of a simple polygon: there are some, and each has a length.
use Rattle.std.proofs.Common.{◌≡◌, ℕ, zero, suc, ◌+◌, ◌-◌, ◌<◌, ◌≤◌, All, Bool, true, false, ◌&&◌, ◌||◌, ◌==◌, not, List, [], ◌∷◌, get_or, length, reverse, nat_lt, Option, Some, None, refl, sym, ap, ◌∙◌, arith, zero-add, find}
use Rattle.std.specs.List.{enumerate_from, list_any, slice_get}
use Rattle.std.specs.Option.{option_map, option_or}
use Rattle.std.specs.Prelude.{if◌then◌else◌, pos, unwrap_or}
use Rattle.std.specs.Ordering.{int_eq}
use Rattle.std.proofs.lemmas.Bool.Decides.{nat_tests}
use Rattle.std.proofs.lemmas.List.{get_or-map, get_or-reverse, length-reverse}
use Rattle.std.proofs.lemmas.List.Elements.{All-from_get_or}
use Rattle.std.proofs.lemmas.List.FromFn.{get_or-enumerate_from, length-enumerate_from}
use Rattle.std.proofs.lemmas.Option.{slice_get-get_or, slice_get_past}
use Rattle.lump_records.specs.declared.records.Vertex.{Vertex}
use Rattle.map_plane.specs.Meeting.{is_at, meets}
use Rattle.map_plane.specs.Polygon.{clashes, has_clash, polygon_area}
use Rattle.map_plane.specs.declared.places.PlacedLine.{PlacedLine}
use Rattle.map_areas.proofs.Pillars.{length-outline}
use Rattle.map_areas.specs.Outlines.{bad_corner, edge_from, edges_round, first_corner, lacks_area, next_corner, outline_edges, runs_clockwise}

-- ---- no two corners are at one place

-- a test that none passes
passed_over : {X : Type 0} (x : X) (b : Bool) (o : Option X) → (if b then Some x else o) ≡ None → (b ≡ false) × (o ≡ None)
passed_over x true o h = cc
passed_over x false o h = (refl, h)

none_found : {X : Type 0} (p : X → Bool) (xs : List X) → find p xs ≡ None → (i : ℕ) (d : X) → i < length xs → p (get_or xs i d) ≡ false
none_found p [] h i d lt = absurd (omega arith)
none_found p (x ∷ xs) h zero d lt = (passed_over x (p x) (find p xs) h).0
none_found p (x ∷ xs) h (suc i) d lt = none_found p xs (passed_over x (p x) (find p xs) h).1 i d (omega arith)

neither : (a b : Bool) → (a || b) ≡ false → (a ≡ false) × (b ≡ false)
neither true b h = cc
neither false b h = (refl, h)

none_any : {X : Type 0} (p : X → Bool) (xs : List X) → list_any p xs ≡ false → (i : ℕ) (d : X) → i < length xs → p (get_or xs i d) ≡ false
none_any p [] h i d lt = absurd (omega arith)
none_any p (x ∷ xs) h zero d lt = (neither (p x) (list_any p xs) h).0
none_any p (x ∷ xs) h (suc i) d lt = none_any p xs (neither (p x) (list_any p xs) h).1 i d (omega arith)

-- some place
abbrev origin : Vertex
origin = record { x = pos 0; y = pos 0 }

abbrev corner : List Vertex → ℕ → Vertex
corner cs i = get_or cs i origin

edge_at : (cs : List Vertex) (i : ℕ) → i < length cs → get_or (outline_edges cs) i (edge_from cs (0, origin)) ≡ edge_from cs (i, corner cs i)
edge_at cs i lt =
    let size = length-enumerate_from 0 cs in
    get_or-map (edge_from cs) (enumerate_from 0 cs) i (0, origin) (edge_from cs (0, origin)) (omega (arith, size, lt))
    ∙ ap (edge_from cs) (get_or-enumerate_from 0 cs i (0, origin) lt ∙ (λ t. (zero-add i t, corner cs i)))

-- no two of the corners are at one place
abbrev AreApart : List Vertex → Type 0
AreApart cs = (i j : ℕ) → i < length cs → j < length cs → (i ≡ j → ⊥) → is_at (corner cs i) (corner cs j) ≡ false

not_both : (a b : Bool) → (a && b) ≡ false → a ≡ true → b ≡ false
not_both true b h k = h
not_both false b h k = cc

not_equal : (i j : ℕ) → (i ≡ j → ⊥) → not (i == j) ≡ true
not_equal i j ne = grind (arith, nat_tests, ne)

unclashed : (e k : PlacedLine) → clashes e k ≡ false → (e.number ≡ k.number → ⊥) → is_at e.from k.from ≡ false
unfolding clashes
unclashed e k h ne =
    not_both (not (e.number == k.number)) (is_at e.from k.from) (neither (not (e.number == k.number) && is_at e.from k.from) (meets e k) h).0
    (not_equal e.number k.number ne)

none_clashes : (o : Option PlacedLine) (r : Option Vertex) → option_or (option_map (λ e. e.from) o) r ≡ None → o ≡ None
none_clashes None r h = refl
none_clashes (Some e) r h = cc

corners_apart : (cs : List Vertex) → bad_corner (outline_edges cs) ≡ None → AreApart cs
corners_apart cs h i j li lj ne =
    let es = outline_edges cs in
    let d = edge_from cs (0, origin) in
    let size = length-outline cs in
    let free = none_found (has_clash es) es (none_clashes (find (has_clash es) es) (if lacks_area es then Some (first_corner es) else None) h) i d (omega (arith, size, li)) in
    let one = none_any (clashes (get_or es i d)) es free j d (omega (arith, size, lj)) in
    unclashed (edge_from cs (i, corner cs i)) (edge_from cs (j, corner cs j)) ((λ t. clashes (sym (edge_at cs i li) t) (sym (edge_at cs j lj) t)) ∙ one) ne

-- ---- edges with lengths

next_is : (cs : List Vertex) (i : ℕ) (v : Vertex) → i + 1 < length cs → next_corner cs (i, v) ≡ corner cs (i + 1)
next_is cs i v lt = ap (λ (o : Option Vertex). unwrap_or (option_or o (slice_get cs 0)) v) (slice_get-get_or cs (i + 1) origin lt)

next_of_last : (cs : List Vertex) (i : ℕ) (v : Vertex) → length cs ≤ i + 1 → 0 < length cs → next_corner cs (i, v) ≡ corner cs 0
next_of_last cs i v ge some =
    ap (λ (o : Option Vertex). unwrap_or (option_or o (slice_get cs 0)) v) (slice_get_past cs (i + 1) ge)
    ∙ ap (λ (o : Option Vertex). unwrap_or o v) (slice_get-get_or cs 0 origin some)

by_lt : {X : Type 0} (a b : ℕ) → (a < b → X) → (b ≤ a → X) → X
by_lt a b f g = by (nat_lt a b) (λ h. f (grind (arith, nat_tests, h))) (λ h. g (grind (arith, nat_tests, h)))
  where
    by : {Y : Type 0} (t : Bool) → (t ≡ true → Y) → (t ≡ false → Y) → Y
    by true p q = p refl
    by false p q = q refl

long_at : (cs : List Vertex) → AreApart cs → 1 < length cs → (i : ℕ) → i < length cs → is_at (corner cs i) (next_corner cs (i, corner cs i)) ≡ false
long_at cs apart two i lt =
    by_lt (i + 1) (length cs)
    (λ inner. ap (λ (v : Vertex). is_at (corner cs i) v) (next_is cs i (corner cs i) inner) ∙ apart i (i + 1) lt inner (λ e. omega (arith, e)))
    (λ last. ap (λ (v : Vertex). is_at (corner cs i) v) (next_of_last cs i (corner cs i) last (omega (arith, two))) ∙ apart i 0 lt (omega (arith, two)) (λ e. omega (arith, e, last, two)))

-- an edge has a length
abbrev HasLength : PlacedLine → Type 0
HasLength e = is_at e.from e.to ≡ false

all_long : (cs : List Vertex) → AreApart cs → 1 < length cs → All HasLength (outline_edges cs)
all_long cs apart two =
    let size = length-outline cs in
    All-from_get_or HasLength (outline_edges cs) (edge_from cs (0, origin))
    (λ i lt.
    let lt' : i < length cs = omega (arith, size, lt) in
    ap (λ (e : PlacedLine). is_at e.from e.to) (edge_at cs i lt') ∙ long_at cs apart two i lt')

turned_apart : (cs : List Vertex) → AreApart cs → AreApart (reverse cs)
turned_apart cs apart i j li lj ne =
    let size = length-reverse cs in
    let li' : i < length cs = omega (arith, size, li) in
    let lj' : j < length cs = omega (arith, size, lj) in
    (λ t. is_at (get_or-reverse cs i origin li' t) (get_or-reverse cs j origin lj' t))
    ∙ apart (length cs - 1 - i) (length cs - 1 - j) (omega (arith, li')) (omega (arith, lj')) (λ e. ne (omega (arith, e, li', lj')))

has_area : (o : Option Vertex) (b : Bool) (v : Vertex) → option_or o (if b then Some v else None) ≡ None → b ≡ false
has_area (Some w) b v h = cc
has_area None true v h = cc
has_area None false v h = refl

three : (n : ℕ) (b : Bool) → (nat_lt n 3 || b) ≡ false → 1 < n
three n b h = grind (arith, nat_tests)

-- more than one corner
two_corners : (cs : List Vertex) → bad_corner (outline_edges cs) ≡ None → 1 < length cs
two_corners cs h =
    let es = outline_edges cs in
    let size = length-outline cs in
    let more = three (length es) (int_eq (polygon_area es) (pos 0)) (has_area _ (lacks_area es) (first_corner es) h) in
    omega (arith, size, more)

-- a simple polygon's edges, clockwise
pub round_long : (cs : List Vertex) → bad_corner (outline_edges cs) ≡ None → All (λ e. is_at e.from e.to ≡ false) (edges_round true cs)
round_long cs h = by (runs_clockwise (outline_edges cs))
  where
    by : (t : Bool) → All HasLength (if t then outline_edges cs else outline_edges (reverse cs))
    by true = all_long cs (corners_apart cs h) (two_corners cs h)
    by false = let two = two_corners cs h in let size = length-reverse cs in all_long (reverse cs) (turned_apart cs (corners_apart cs h)) (omega (arith, two, size))

pub round_some : (cs : List Vertex) → bad_corner (outline_edges cs) ≡ None → 0 < length (edges_round true cs)
round_some cs h = by (runs_clockwise (outline_edges cs))
  where
    by : (t : Bool) → 0 < length (if t then outline_edges cs else outline_edges (reverse cs))
    by true = omega (arith, two_corners cs h, length-outline cs)
    by false = omega (arith, two_corners cs h, length-outline (reverse cs), length-reverse cs)
