-- Solid things as points, and what it says of a point that its thing is in the way.
use Rattle.std.proofs.Common.{◌≡◌, ℕ, ◌+◌, ◌≤◌, Bool, true, false, cond, ◌&&◌, ◌||◌, not, List, [], ◌∷◌, filter, map, Option, Some, None, refl, sym, subst, ap, ◌∙◌, arith}
use Rattle.std.specs.Prelude.{◌==◌, is_some, nat_le, find, length, pos, slice_get}
use Rattle.std.specs.List.{list_any, list_all, range_with_len}
use Rattle.std.specs.Option.{option_map_or}
use Rattle.std.proofs.lemmas.Bool.Decides.{nat_tests}
use Rattle.std.proofs.lemmas.Map.Views.{any-filter_same}
use Rattle.lump_records.specs.declared.records.Thing.{Thing}
use Rattle.lump_records.specs.declared.records.Vertex.{Vertex}
use Rattle.lump_records.specs.Things.{thing_place}
use Rattle.map_tables.specs.Tables.{Tables}
use Rattle.map_plane.specs.declared.places.PlacedLine.{PlacedLine}
use Rattle.map_plane.specs.Squares.{squares_overlap}
use Rattle.map_plane.proofs.SquareLemmas.{overlap_more}
use Rattle.map_plane.proofs.Tests.{and_both}
use Rattle.map_play.specs.declared.bodies.Body.{Body}
use Rattle.map_play.specs.Bodies.{bodies, body_of, is_body_of}
use Rattle.map_play.specs.Crowds.{is_in_way, is_solid_in_way, is_blocked_by, is_blocked}
use Rattle.map_play.specs.Games.{share_game}
use Rattle.map_play.specs.Points.{is_solid_at, place_at, solid_point, solid_points, is_near, is_blocked_at}

-- ---- the widest body

kept : {X : Type 0} (q : X → Bool) (b : Bool) (y x : X) (rest : Option X) → q y ≡ true → (rest ≡ Some x → q x ≡ true)
    → cond b (Some y) rest ≡ Some x → q x ≡ true
kept q true y x rest here later is = let e : y ≡ x = cc in subst (λ z. q z ≡ true) e here
kept q false y x rest here later is = later is

-- what passes of all items passes of the one that is found
find_passes : {X : Type 0} (q p : X → Bool) (xs : List X) (x : X) → list_all q xs ≡ true → find p xs ≡ Some x → q x ≡ true
find_passes q p [] x all is = cc
find_passes q p (y ∷ ys) x all is =
    let two = and_both (q y) (list_all q ys) all in
    kept q (p y) y x (find p ys) two.0 (find_passes q p ys x two.1) is

le_from_test : (a b : ℕ) → nat_le a b ≡ true → a ≤ b
le_from_test a b h = grind (arith, nat_tests)

-- no body is wider than 128
no_wider : (t : Thing) (b : Body) → body_of t ≡ Some b → b.radius ≤ 128
no_wider t b is = le_from_test b.radius 128 (find_passes (λ (c : Body). nat_le c.radius 128) (is_body_of t) bodies b refl is)

-- ---- what a test of an option says

found_in : {X : Type 0} (f : X → Bool) (o : Option X) → option_map_or f o false ≡ true → (x : X) × (o ≡ Some x) × (f x ≡ true)
found_in f None h = cc
found_in f (Some x) h = (x, refl, h)

-- ---- points and things

-- a thing that is in the way is near
near_if_blocked : (m : Tables) (n : ℕ) (t : Thing) (b : Body) (k : ℕ) → is_blocked_by m n t b k ≡ true → is_near t b (place_at m k) ≡ true
unfolding is_blocked_by is_in_way
near_if_blocked m n t b k h =
    let two = and_both (not (k == n)) (option_map_or (is_solid_in_way t b) (slice_get m.things k) false) h in
    let thing = found_in (is_solid_in_way t b) (slice_get m.things k) two.1 in
    let body = found_in (is_in_way t b thing.0) (body_of thing.0) thing.2 in
    let both = and_both (squares_overlap (b.radius + body.0.radius) (thing_place t) (thing_place thing.0)) (share_game t thing.0) body.2 in
    let narrow = no_wider thing.0 body.0 body.1 in
    let here : place_at m k ≡ thing_place thing.0 = ap (λ (o : Option Thing). option_map_or thing_place o (record { x = pos 0; y = pos 0 })) thing.1 in
    subst (λ (p : Vertex). is_near t b p ≡ true) (sym here)
    (overlap_more (b.radius + body.0.radius) (b.radius + 128) (thing_place t) (thing_place thing.0) (omega arith) both.0)

and_needless : (p q : Bool) → (q ≡ true → p ≡ true) → (p && q) ≡ q
and_needless true q h = refl
and_needless false true h = h refl
and_needless false false h = refl

-- a point is in the way exactly if its thing is
at_point : (m : Tables) (n : ℕ) (t : Thing) (b : Body) (k : ℕ) → is_blocked_at m n t b (solid_point m k) ≡ is_blocked_by m n t b k
unfolding is_blocked_at
at_point m n t b k = and_needless (is_near t b (place_at m k)) (is_blocked_by m n t b k) (near_if_blocked m n t b k)

-- and it is near
pub near_at : (m : Tables) (n : ℕ) (t : Thing) (b : Body) (l : PlacedLine) → is_blocked_at m n t b l ≡ true
    → squares_overlap (b.radius + 128) (thing_place t) l.from ≡ true
unfolding is_blocked_at
near_at m n t b l h = (and_both (is_near t b l.from) (is_blocked_by m n t b l.number) h).0

some_if : {X : Type 0} (f : X → Bool) (o : Option X) → option_map_or f o false ≡ true → is_some o ≡ true
some_if f None h = h
some_if f (Some x) h = refl

solid_if : (f : Thing → Body → Bool) (o : Option Thing) → option_map_or (λ u. option_map_or (f u) (body_of u) false) o false ≡ true
    → option_map_or (λ u. is_some (body_of u)) o false ≡ true
solid_if f None h = h
solid_if f (Some u) h = some_if (f u) (body_of u) h

-- what is in the way is solid
in_way_solid : (m : Tables) (n : ℕ) (t : Thing) (b : Body) (k : ℕ) → is_blocked_by m n t b k ≡ true → is_solid_at m k ≡ true
unfolding is_blocked_by
in_way_solid m n t b k h =
    solid_if (is_in_way t b) (slice_get m.things k) (and_both (not (k == n)) (option_map_or (is_solid_in_way t b) (slice_get m.things k) false) h).1

any_of_map : {X Y : Type 0} (f : Y → Bool) (g : X → Y) (h : X → Bool) → ((x : X) → f (g x) ≡ h x) → (xs : List X) → list_any f (map g xs) ≡ list_any h xs
any_of_map f g h e [] = refl
any_of_map f g h e (x ∷ xs) = λ i. e x i || any_of_map f g h e xs i

-- a solid point is in the way exactly if a thing is
pub blocked_at_points : (m : Tables) (n : ℕ) (t : Thing) (b : Body) → list_any (is_blocked_at m n t b) (solid_points m) ≡ is_blocked m n t b
blocked_at_points m n t b =
    let numbers = range_with_len 0 (length m.things) in
    any_of_map (is_blocked_at m n t b) (solid_point m) (is_blocked_by m n t b) (at_point m n t b) (filter (is_solid_at m) numbers)
    ∙ any-filter_same (is_blocked_by m n t b) (is_solid_at m) true (in_way_solid m n t b) numbers
