-- Drawing a room: nothing refuses its walls.
use Rattle.std.proofs.Common.{◌≡◌, ◌≢◌, ℕ, ◌+◌, ◌*◌, ◌<◌, ◌≤◌, Bool, true, false, List, [], ◌∷◌, ◌++◌, length, drop, None, refl, sym, subst, ◌∙◌, ap, arith, append_assoc, length-append, length-drop, ℤ, pos, negsuc, nat_lt, nat_eq, not}
use Rattle.std.specs.Prelude.{◌||◌, ◌-ℤ◌, unsigned_abs}
use Rattle.std.proofs.Math.Nat.{mul-le-mul_left, mul-le-mul_right}
use Rattle.std.proofs.lemmas.Bool.{eqb-true, false_from_ne_true, le-ltb, lt-ltb}
use Rattle.std.proofs.lemmas.Int.{ints}
use Rattle.std.proofs.lemmas.List.{get_or-drop}
use Rattle.lump_records.specs.declared.records.Line.{Line}
use Rattle.lump_records.specs.declared.records.Vertex.{Vertex}
use Rattle.map_tables.specs.Tables.{Tables}
use Rattle.lump_records.specs.Drawing.{IsCoordinate, longest_squared, squared_distance}
use Rattle.map_tables.specs.WellFormed.{nth_vertex}
use Rattle.map_tables.specs.Outcomes.{least}
use Rattle.map_tables.specs.Faults.{lacks, lacks_room, line_faults}
use Rattle.map_tables.specs.Edits.{with_line}
use Rattle.map_commands.specs.declared.command.RoomPlan.{RoomPlan}
use Rattle.map_commands.specs.Step.{IsRoom}
use Rattle.map_commands.specs.Rooms.{corners, wall, with_lines}

-- several lines, one after another
pub more_lines : (m n o : Tables) (ls : List Line) (l : Line) → n ≡ with_lines m ls → o ≡ with_line n l → o ≡ with_lines m (ls ++ l ∷ [])
more_lines m n o ls l e f = f ∙ ap (λ t. with_line t l) e ∙ ap (λ xs. record m { lines = xs }) (append_assoc m.lines ls (l ∷ []))

-- ---- Walls

pub or-both : (a b : Bool) → a ≡ false → b ≡ false → (a || b) ≡ false
or-both true b e f = absurd cc
or-both false b e f = f

pub lacks-not : {X : Type 0} (xs : List X) (n : ℕ) → n < length xs → lacks xs n ≡ false
lacks-not xs n h = ap not (lt-ltb n (length xs) h)

within : (a b : ℤ) → IsCoordinate a → IsCoordinate b → unsigned_abs (b -ℤ a) ≤ 32767
within (pos a) (pos b) f g = let h = f.at_most in let i = g.at_most in omega (arith, ints, h, i)
within (pos a) (negsuc b) f g = let h = f.at_most in let i = g.at_least in omega (arith, ints, h, i)
within (negsuc a) (pos b) f g = let h = f.at_least in let i = g.at_most in omega (arith, ints, h, i)
within (negsuc a) (negsuc b) f g = let h = f.at_least in let i = g.at_least in omega (arith, ints, h, i)

nowhere : (a : ℤ) → unsigned_abs (a -ℤ a) ≡ 0
nowhere (pos a) = omega (arith, ints)
nowhere (negsuc a) = omega (arith, ints)

square : (n : ℕ) → n ≤ 32767 → n * n ≤ 1073676289
square n h = let a = mul-le-mul_left n h in let b = mul-le-mul_right 32767 h in omega (arith, a, b)

not-longer : (n : ℕ) → n ≤ longest_squared → nat_lt longest_squared n ≡ false
not-longer n h = le-ltb longest_squared n h

-- two places at one height, or one above the other
pub beside : (a b y : ℤ) → IsCoordinate a → IsCoordinate b → squared_distance (record { x = a; y = y }) (record { x = b; y = y }) ≤ longest_squared
beside a b y f g = let s = square (unsigned_abs (b -ℤ a)) (within a b f g) in let z = nowhere y in rw z (omega (arith, s))

pub above : (x a b : ℤ) → IsCoordinate a → IsCoordinate b → squared_distance (record { x = x; y = a }) (record { x = x; y = b }) ≤ longest_squared
above x a b f g = let s = square (unsigned_abs (b -ℤ a)) (within a b f g) in let z = nowhere x in rw z (omega (arith, s))

-- what must hold of a wall's vertices and side
pub record StandsFree (m : Tables) (from to side : ℕ) : Type 0 where
  pub start : from < length m.vertices
  pub end : to < length m.vertices
  pub differ : from ≢ to
  pub right : side < length m.sides
  pub short : squared_distance (nth_vertex m.vertices from) (nth_vertex m.vertices to) ≤ longest_squared

pub wall_free : (m n : Tables) (ls : List Line) (l : Line) (v1 v2 right : ℕ) → n ≡ with_lines m ls → l
    ≡ wall v1 v2 right → StandsFree m v1 v2 right → length m.lines + length ls < 32767 → least (line_faults n l) ≡ None
wall_free m n ls l v1 v2 right e is s h =
    let from = s.start in
    let to = s.end in
    let side = s.right in
    let far = s.short in
    let ends : (lacks n.vertices v1 || lacks n.vertices v2) ≡ false =
    ap (λ t. lacks t.vertices v1 || lacks t.vertices v2) e
    ∙ or-both (lacks m.vertices v1) (lacks m.vertices v2) (lacks-not m.vertices v1 from)
    (lacks-not m.vertices v2 to) in
    let sides : (lacks n.sides right || false) ≡ false = ap (λ t. lacks t.sides right || false) e ∙ or-both (lacks m.sides right) false (lacks-not m.sides right side) refl in
    let differ : nat_eq v1 v2 ≡ false = false_from_ne_true (nat_eq v1 v2) (λ t. s.differ (eqb-true v1 v2 t)) in
    let long = length-append m.lines ls in
    let count : length n.lines ≡ length m.lines + length ls = ap (λ t. length t.lines) e ∙ long in
    let room : lacks_room n.lines 1 ≡ false = le-ltb 32767 (length n.lines + 1) (omega (arith, count, h)) in
    let short : nat_lt longest_squared (squared_distance (nth_vertex n.vertices v1) (nth_vertex n.vertices v2))
    ≡ false = ap (λ t. nat_lt longest_squared (squared_distance (nth_vertex t.vertices v1)
    (nth_vertex t.vertices v2))) e ∙ not-longer (squared_distance (nth_vertex m.vertices v1)
    (nth_vertex m.vertices v2)) far in
    ap (λ k. least (line_faults n k)) is
    ∙ (λ i. least ((3, ends i) ∷ (5, sides i) ∷ (9, differ i) ∷ (11, false) ∷ (12, room i) ∷ (13, short i) ∷ []))

corner-at : (vs cs : List Vertex) (f n k : ℕ) → drop f vs ≡ cs → n ≡ f + k → nth_vertex vs n ≡ nth_vertex cs k
corner-at vs cs f n k e is = ap (nth_vertex vs) is ∙ sym (get_or-drop f vs k _) ∙ ap (λ xs. nth_vertex xs k) e

far-enough : (a b c d : Vertex) → a ≡ c → b ≡ d → squared_distance c d ≤ longest_squared → squared_distance a b ≤ longest_squared
far-enough a b c d e f h = subst (λ n. n ≤ longest_squared) (λ i. squared_distance (sym e i) (sym f i)) h

vertices-count : (vs : List Vertex) (r : RoomPlan) (f : ℕ) → drop f vs ≡ corners r → length vs ≡ f + 4
vertices-count vs r f e = let a = length-drop f vs in let b : length (drop f vs) ≡ 4 = ap length e in omega (arith, a, b)

-- the four walls of a room whose corners come last among the vertices

pub west_wall : (m : Tables) (r : RoomPlan) (f d : ℕ) → drop f m.vertices ≡ corners r → IsRoom r → d + 4 ≡ length m.sides → StandsFree m f (f + 1) d
west_wall m r f d e h sides =
    let count = vertices-count m.vertices r f e in
    record {
      start = omega arith;
      end = omega arith;
      differ = omega arith;
      right = omega arith;
      short = far-enough _ _ _ _ (corner-at m.vertices (corners r) f f 0 e (omega arith))
          (corner-at m.vertices (corners r) f (f + 1) 1 e refl)
          (above r.west r.south r.north h.plan.south h.plan.north);
    }

pub north_wall : (m : Tables) (r : RoomPlan) (f d : ℕ) → drop f m.vertices ≡ corners r → IsRoom r → d + 4 ≡ length m.sides → StandsFree m (f + 1) (f + 2) (d + 1)
north_wall m r f d e h sides =
    let count = vertices-count m.vertices r f e in
    record {
      start = omega arith;
      end = omega arith;
      differ = omega arith;
      right = omega arith;
      short = far-enough _ _ _ _ (corner-at m.vertices (corners r) f (f + 1) 1 e refl) (corner-at m.vertices (corners r) f (f + 2) 2 e refl) (beside r.west r.east r.north h.plan.west h.plan.east);
    }

pub east_wall : (m : Tables) (r : RoomPlan) (f d : ℕ) → drop f m.vertices ≡ corners r → IsRoom r → d + 4 ≡ length m.sides → StandsFree m (f + 2) (f + 3) (d + 2)
east_wall m r f d e h sides =
    let count = vertices-count m.vertices r f e in
    record {
      start = omega arith;
      end = omega arith;
      differ = omega arith;
      right = omega arith;
      short = far-enough _ _ _ _ (corner-at m.vertices (corners r) f (f + 2) 2 e refl) (corner-at m.vertices (corners r) f (f + 3) 3 e refl) (above r.east r.north r.south h.plan.north h.plan.south);
    }

pub south_wall : (m : Tables) (r : RoomPlan) (f d : ℕ) → drop f m.vertices ≡ corners r → IsRoom r → d + 4 ≡ length m.sides → StandsFree m (f + 3) f (d + 3)
south_wall m r f d e h sides =
    let count = vertices-count m.vertices r f e in
    record {
      start = omega arith;
      end = omega arith;
      differ = omega arith;
      right = omega arith;
      short = far-enough _ _ _ _ (corner-at m.vertices (corners r) f (f + 3) 3 e refl) (corner-at m.vertices (corners r) f f 0 e (omega arith)) (beside r.east r.west r.south h.plan.east h.plan.west);
    }
