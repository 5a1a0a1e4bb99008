-- The map accepts each command of a door in turn.
use Rattle.std.proofs.Common.{◌≡◌, ◌≢◌, ◌⊎◌, inl, inr, ℕ, zero, suc, ◌+◌, ◌/◌, ◌%◌, ◌<◌, ◌≤◌, Bool, true, false, ◌&&◌, ◌||◌, ◌==◌, not, cond, ltb, nat_lt, List, [], ◌∷◌, ◌++◌, length, Option, Some, None, unwrap_or, refl, sym, ap, ap₂, ◌∙◌, ◌*◌, subst, arith}
use Rattle.std.specs.Prelude.{All, ℤ, ◌-ℤ◌, if◌then◌else◌, slice_get, slice_set, unsigned_abs}
use Rattle.std.proofs.lemmas.Bool.Decides.{nat_tests}
use Rattle.std.proofs.lemmas.Int.{ints}
use Rattle.std.proofs.lemmas.List.{length-append, length-set}
use Rattle.std.proofs.lemmas.List.Elements.{All-cons, All-head, All-nil, All-tail}
use Rattle.std.proofs.lemmas.List.Sums.{sum_by-cons}
use Rattle.lump_records.specs.Drawing.{longest_squared, squared_distance}
use Rattle.lump_records.specs.Limits.{item_limit}
use Rattle.lump_records.specs.Sides.{has_left, is_two_sided, no_side}
use Rattle.lump_records.specs.declared.records.Line.{Line}
use Rattle.lump_records.specs.declared.records.Sector.{Sector}
use Rattle.lump_records.specs.declared.records.Side.{Side}
use Rattle.lump_records.specs.declared.records.Vertex.{Vertex}
use Rattle.map_areas.specs.Drawn.{AreTaken, LeadTo}
use Rattle.map_commands.specs.Step.{InRange, after, faults}
use Rattle.map_commands.specs.declared.command.Command.{Command}
use Rattle.map_commands.specs.declared.command.Command.TheVariants.{Edit}
use Rattle.map_tables.specs.Faults.{is_too_long, lacks, lacks_room}
use Rattle.map_tables.specs.Outcomes.{least}
use Rattle.map_tables.specs.Tables.{Tables}
use Rattle.map_tables.specs.WellFormed.{HasEnds, HasSector, HasSides, WellFormed, nth_vertex}
use Rattle.map_tables.specs.declared.edit.Edit.TheVariants.{Add, Set}
use Rattle.map_tables.specs.declared.edit.Item.TheVariants as item
use Rattle.map_shapes.proofs.DoorFaults.{ltb_no, ltb_yes, present}
use Rattle.map_shapes.specs.Doors.{door_commands, is_shared, is_wall_of, jamb_by, jamb_commands, jamb_of, line_commands, lines_commands, lines_sides, opening, opening_by, opening_jamb, shut, side_faces, sides_added, turned_line, wall_jamb, with_lower_pegged}
use Rattle.map_shapes.specs.declared.door.Jamb.{Jamb}
use Rattle.map_shapes.specs.declared.shape.Door.{Door}

-- ---- Tests

-- a fault whose test doesn't hold refuses nothing
passed : (b : Bool) (k : ℕ) (o : Option ℕ) → b ≡ false → o ≡ None → cond {A = Option ℕ} b (Some k) o ≡ None
passed true k o e h = cc
passed false k o e h = h

-- nor do two
both_passed : (k j : ℕ) (p q : Bool) → p ≡ false → q ≡ false → least ((k, p) ∷ (j, q) ∷ []) ≡ None
both_passed k j p q hp hq = passed p k (cond {A = Option ℕ} q (Some j) None) hp (passed q j None hq refl)

-- nor do those of a line that is changed
line_passed : (p q r s t u : Bool) → p ≡ false → q ≡ false → r ≡ false → s ≡ false → t ≡ false → u ≡ false
    → least ((3, p) ∷ (5, q) ∷ (6, r) ∷ (9, s) ∷ (11, t) ∷ (13, u) ∷ []) ≡ None
line_passed p q r s t u hp hq hr hs ht hu =
    let o6 = cond {A = Option ℕ} u (Some 13) None in
    let o5 = cond {A = Option ℕ} t (Some 11) o6 in
    let o4 = cond {A = Option ℕ} s (Some 9) o5 in
    let o3 = cond {A = Option ℕ} r (Some 6) o4 in
    let o2 = cond {A = Option ℕ} q (Some 5) o3 in
    passed p 3 o2 hp (passed q 5 o3 hq (passed r 6 o4 hr (passed s 9 o5 hs (passed t 11 o6 ht (passed u 13 None hu refl)))))

some_is : {X : Type 0} (x y : X) → Some x ≡ Some y → x ≡ y
some_is x y e = ap (λ o. unwrap_or o x) e

neither : (a b : Bool) → a ≡ false → b ≡ false → (a || b) ≡ false
neither true b h k = cc
neither false b h k = k

not_second : (a b : Bool) → b ≡ false → (a && b) ≡ false
not_second true b h = h
not_second false b h = refl

same_number : (n k : ℕ) → (n == k) ≡ true → n ≡ k
same_number n k h = grind (arith, nat_tests)

number_is : (n k : ℕ) → n ≡ k → (n == k) ≡ true
number_is n k h = grind (arith, nat_tests)

-- numbers that differ
differ_is : (n k : ℕ) → n ≢ k → (n == k) ≡ false
differ_is n k h = by_value (n == k) refl
  where
    by_value : (b : Bool) → (n == k) ≡ b → (n == k) ≡ false
    by_value true e = absurd (h (same_number n k e))
    by_value false e = e

below_there : {X : Type 0} (xs : List X) (n : ℕ) → n < length xs → lacks xs n ≡ false
below_there xs n h = ap not (ltb_yes n (length xs) h)

there_below : {X : Type 0} (xs : List X) (n : ℕ) → lacks xs n ≡ false → n < length xs
there_below xs n h = by_value (ltb n (length xs)) refl h
  where
    by_value : (b : Bool) → ltb n (length xs) ≡ b → not b ≡ false → n < length xs
    by_value true e g = grind (arith, nat_tests)
    by_value false e g = cc

-- what is there in one list is there in one that isn't shorter
still_there : {X : Type 0} (xs ys : List X) (n : ℕ) → lacks xs n ≡ false → length xs ≤ length ys → lacks ys n ≡ false
still_there xs ys n h le = let b = there_below xs n h in below_there ys n (omega (arith, b, le))

-- what holds of all items holds of one
all_at : {X : Type 0} (P : X → Type 0) (xs : List X) (n : ℕ) (x : X) → All P xs → slice_get xs n ≡ Some x → P x
all_at P [] n x h e = cc
all_at P (y ∷ ys) zero x h e = subst P (some_is y x e) (All-head P y ys h)
all_at P (y ∷ ys) (suc n) x h e = all_at P ys n x (All-tail P y ys h) e

all_front : {X : Type 0} (P : X → Type 0) (xs ys : List X) → All P (xs ++ ys) → All P xs
all_front P [] ys h = All-nil P
all_front P (x ∷ xs) ys h = All-cons P x xs (All-head P x (xs ++ ys) h) (all_front P xs ys (All-tail P x (xs ++ ys) h))

all_back : {X : Type 0} (P : X → Type 0) (xs ys : List X) → All P (xs ++ ys) → All P ys
all_back P [] ys h = h
all_back P (x ∷ xs) ys h = all_back P xs ys (All-tail P x (xs ++ ys) h)

-- ---- A line that may stand

-- what a line names is there, and it is drawn right
record Stands (m : Tables) (l : Line) : Type 0 where
  v1 : lacks m.vertices l.v1 ≡ false
  v2 : lacks m.vertices l.v2 ≡ false
  right : lacks m.sides l.right ≡ false
  left : (has_left l && lacks m.sides l.left) ≡ false
  ends : (l.v1 == l.v2) ≡ false
  two : (is_two_sided l && not (has_left l)) ≡ false
  short : is_too_long m.vertices l ≡ false

-- a left side is there, if there is one
left_there : (m : Tables) (l : Line) → HasSides m.sides l → (has_left l && lacks m.sides l.left) ≡ false
left_there m l h = by_value (l.left == no_side) refl
  where
    by_value : (b : Bool) → (l.left == no_side) ≡ b → (not b && lacks m.sides l.left) ≡ false
    by_value true e = refl
    by_value false e = below_there m.sides l.left (h.left (λ q. let t = number_is l.left no_side q in cc))

-- a two-sided line has a left side
two_fits : (m : Tables) (l : Line) → HasSides m.sides l → (is_two_sided l && not (has_left l)) ≡ false
two_fits m l h = by_value (is_two_sided l) refl
  where
    by_value : (b : Bool) → is_two_sided l ≡ b → (b && not (has_left l)) ≡ false
    by_value true e = ap (λ t. not (not t)) (differ_is l.left no_side (h.two_sided e))
    by_value false e = refl

-- a line of the map stands
line_stands : (m : Tables) (l : Line) → HasEnds m.vertices l → HasSides m.sides l → Stands m l
line_stands m l e s = record {
  v1 = below_there m.vertices l.v1 e.v1;
  v2 = below_there m.vertices l.v2 e.v2;
  right = below_there m.sides l.right s.right;
  left = left_there m l s;
  ends = differ_is l.v1 l.v2 e.differ;
  two = two_fits m l s;
  short = ltb_no longest_squared (squared_distance (nth_vertex m.vertices l.v1) (nth_vertex m.vertices l.v2)) e.short;
}

-- as far there as back
abs_back : (a b : ℤ) → unsigned_abs (b -ℤ a) ≡ unsigned_abs (a -ℤ b)
abs_back a b = grind (arith, ints)

far_back : (v w : Vertex) → squared_distance v w ≡ squared_distance w v
far_back v w = ap₂ (λ (x y : ℕ). x * x + y * y) (abs_back v.x w.x) (abs_back v.y w.y)

-- and so does one with a left side, turned
turned_stands : (m : Tables) (l : Line) → length m.sides ≤ item_limit → has_left l ≡ true → HasEnds m.vertices l → HasSides m.sides l
    → Stands m (turned_line l)
turned_stands m l few has e s =
    let apart : l.left ≢ no_side = λ q. let t = number_is l.left no_side q in cc in
    let right : (l.right == no_side) ≡ false = differ_is l.right no_side (λ q. absurd (omega (arith, few, s.right, q))) in
    record {
      v1 = below_there m.vertices l.v2 e.v2;
      v2 = below_there m.vertices l.v1 e.v1;
      right = below_there m.sides l.left (s.left apart);
      left = not_second (has_left (turned_line l)) (lacks m.sides l.right) (below_there m.sides l.right s.right);
      ends = differ_is l.v2 l.v1 (λ q. e.differ (sym q));
      two = not_second (is_two_sided l) (not (not (l.right == no_side))) (ap (λ t. not (not t)) right);
      short =
          ltb_no longest_squared (squared_distance (nth_vertex m.vertices l.v2) (nth_vertex m.vertices l.v1))
          (subst (λ d. d ≤ longest_squared) (far_back (nth_vertex m.vertices l.v1) (nth_vertex m.vertices l.v2)) e.short);
    }

-- another special changes nothing of it
special_stands : (m : Tables) (l : Line) (special : ℕ) → Stands m l → Stands m (record l { special = special })
special_stands m l special h = record {
  v1 = h.v1;
  v2 = h.v2;
  right = h.right;
  left = h.left;
  ends = h.ends;
  two = h.two;
  short = h.short;
}

pegged_two : (l : Line) → is_two_sided (record l { flags = with_lower_pegged l.flags }) ≡ is_two_sided l
pegged_two l = by_value (l.flags / 16 % 2 == 0)
  where
    by_value : (b : Bool) → (((if b then l.flags + 16 else l.flags) / 4 % 2) == 1) ≡ ((l.flags / 4 % 2) == 1)
    by_value true = ap (λ x. x == 1) (omega arith)
    by_value false = refl

-- nor does the flag of a wall beside a door
pegged_stands : (m : Tables) (l : Line) → Stands m l → Stands m (record l { flags = with_lower_pegged l.flags })
pegged_stands m l h = record {
  v1 = h.v1;
  v2 = h.v2;
  right = h.right;
  left = h.left;
  ends = h.ends;
  two = ap (λ b. b && not (has_left l)) (pegged_two l) ∙ h.two;
  short = h.short;
}

-- ---- A line of the border

-- its line stands, and the sector of its side is there
record StandsAt (m : Tables) (j : Jamb) : Type 0 where
  line : Stands m j.line
  sector : lacks m.sectors j.side.sector ≡ false

side_sector : (m : Tables) (n : ℕ) (s : Side) → All (HasSector m.sectors) m.sides → slice_get m.sides n ≡ Some s → lacks m.sectors s.sector ≡ false
side_sector m n s h e = below_there m.sectors s.sector (all_at (HasSector m.sectors) m.sides n s h e)

-- of a line that stands: an opening
opening_stands : (m : Tables) (d : Door) (o : Line) (j : Jamb) → All (HasSector m.sectors) m.sides → Stands m o
    → opening_jamb d o (slice_get m.sides o.right) ≡ Some j → StandsAt m j
opening_stands m d o j sectors h e = by_side (slice_get m.sides o.right) refl e
  where
    by_side : (s : Option Side) → slice_get m.sides o.right ≡ s → opening_jamb d o s ≡ Some j → StandsAt m j
    by_side None is q = cc
    by_side (Some s) is q =
        subst (StandsAt m) (some_is _ j q) (record { line = special_stands m o d.special h; sector = side_sector m o.right s sectors is })

-- or a wall
wall_stands : (m : Tables) (d : Door) (l : Line) (j : Jamb) → All (HasSector m.sectors) m.sides → Stands m l
    → wall_jamb d l (slice_get m.sides l.right) ≡ Some j → StandsAt m j
wall_stands m d l j sectors h e = by_side (slice_get m.sides l.right) refl e
  where
    by_side : (s : Option Side) → slice_get m.sides l.right ≡ s → wall_jamb d l s ≡ Some j → StandsAt m j
    by_side None is q = cc
    by_side (Some s) is q =
        subst (StandsAt m) (some_is _ j q) (record { line = pegged_stands m l h; sector = side_sector m l.right s sectors is })

-- an opening is the line or the line turned
opening_by_is : (a b : Bool) (l o : Line) → opening_by a b l ≡ Some o → (o ≡ l) ⊎ (o ≡ turned_line l)
opening_by_is true true l o e = cc
opening_by_is true false l o e = inr (sym (some_is (turned_line l) o e))
opening_by_is false true l o e = inl (sym (some_is l o e))
opening_by_is false false l o e = cc

-- so it stands
opened_stands : (m : Tables) (d : Door) (l o : Line) → length m.sides ≤ item_limit → HasEnds m.vertices l → HasSides m.sides l
    → opening m.sides d.sector l ≡ Some o → Stands m o
opened_stands m d l o few ends sides e = by_left (has_left l) refl e
  where
    of_line : has_left l ≡ true → (o ≡ l) ⊎ (o ≡ turned_line l) → Stands m o
    of_line has (inl q) = subst (Stands m) (sym q) (line_stands m l ends sides)
    of_line has (inr q) = subst (Stands m) (sym q) (turned_stands m l few has ends sides)

    by_left : (b : Bool) → has_left l ≡ b → (if b then opening_by (side_faces m.sides l.right d.sector) (side_faces m.sides l.left d.sector) l else None) ≡ Some o → Stands m o
    by_left true is q = of_line is (opening_by_is (side_faces m.sides l.right d.sector) (side_faces m.sides l.left d.sector) l o q)
    by_left false is q = cc

-- each line of the border is to be one that stands
jamb_stands : (m : Tables) (d : Door) (l : Line) (j : Jamb) → length m.sides ≤ item_limit → All (HasSector m.sectors) m.sides
    → HasEnds m.vertices l → HasSides m.sides l → jamb_of m d l ≡ Some j → StandsAt m j
jamb_stands m d l j few sectors ends sides e = by_opening (opening m.sides d.sector l) refl e
  where
    by_wall : (b : Bool) → (if b then wall_jamb d l (slice_get m.sides l.right) else None) ≡ Some j → StandsAt m j
    by_wall true q = wall_stands m d l j sectors (line_stands m l ends sides) q
    by_wall false q = cc

    by_opening : (o : Option Line) → opening m.sides d.sector l ≡ o → jamb_by m d l o ≡ Some j → StandsAt m j
    by_opening None is q = by_wall (is_wall_of m.sides d.sector l) q
    by_opening (Some o) is q = opening_stands m d o j sectors (opened_stands m d l o few ends sides is) q

-- ---- The map in the midst of the commands

-- a map has the vertices of another one, as many sectors and lines, and so many sides, not fewer
record Near (m t : Tables) (next : ℕ) : Type 0 where
  vertices : t.vertices ≡ m.vertices
  sectors : length t.sectors ≡ length m.sectors
  sides : length t.sides ≡ next
  more : length m.sides ≤ next
  lines : length t.lines ≡ length m.lines

-- a line that stands in the one, with its right side there, is accepted in the other
set_line_taken : (m t : Tables) (next n : ℕ) (l : Line) → Near m t next → n < length m.lines → Stands m l
    → least (faults t (Edit (Set n (item.Line l)))) ≡ None
set_line_taken m t next n l near lt h =
    let here = λ (k : ℕ) (q : lacks m.vertices k ≡ false). ap (λ (vs : List Vertex). lacks vs k) near.vertices ∙ q in
    let right = still_there m.sides t.sides l.right h.right (omega (arith, near.sides, near.more)) in
    line_passed (lacks t.vertices l.v1 || lacks t.vertices l.v2) (lacks t.sides l.right || (has_left l && lacks t.sides l.left)) (lacks t.lines n) (l.v1 == l.v2)
    (is_two_sided l && not (has_left l)) (is_too_long t.vertices l)
    (neither (lacks t.vertices l.v1) (lacks t.vertices l.v2) (here l.v1 h.v1) (here l.v2 h.v2))
    (neither (lacks t.sides l.right) (has_left l && lacks t.sides l.left) right (left_side (has_left l) h.left))
    (below_there t.lines n (omega (arith, near.lines, lt))) h.ends h.two (ap (λ (vs : List Vertex). is_too_long vs l) near.vertices ∙ h.short)
  where
    left_side : (b : Bool) → (b && lacks m.sides l.left) ≡ false → (b && lacks t.sides l.left) ≡ false
    left_side true q = still_there m.sides t.sides l.left q (omega (arith, near.sides, near.more))
    left_side false q = refl

-- the same with the last of the other's sides as its right side
new_side_taken : (m t : Tables) (next n : ℕ) (l : Line) → Near m t (next + 1) → n < length m.lines → Stands m l
    → least (faults t (Edit (Set n (item.Line (record l { right = next }))))) ≡ None
new_side_taken m t next n l near lt h =
    let here = λ (k : ℕ) (q : lacks m.vertices k ≡ false). ap (λ (vs : List Vertex). lacks vs k) near.vertices ∙ q in
    let right = below_there t.sides next (omega (arith, near.sides)) in
    line_passed (lacks t.vertices l.v1 || lacks t.vertices l.v2) (lacks t.sides next || (has_left l && lacks t.sides l.left)) (lacks t.lines n) (l.v1 == l.v2)
    (is_two_sided l && not (has_left l)) (is_too_long t.vertices l)
    (neither (lacks t.vertices l.v1) (lacks t.vertices l.v2) (here l.v1 h.v1) (here l.v2 h.v2))
    (neither (lacks t.sides next) (has_left l && lacks t.sides l.left) right (left_side (has_left l) h.left))
    (below_there t.lines n (omega (arith, near.lines, lt))) h.ends h.two (ap (λ (vs : List Vertex). is_too_long vs l) near.vertices ∙ h.short)
  where
    left_side : (b : Bool) → (b && lacks m.sides l.left) ≡ false → (b && lacks t.sides l.left) ≡ false
    left_side true q = still_there m.sides t.sides l.left q (omega (arith, near.sides, near.more))
    left_side false q = refl

-- commands lead to a map that is as near
record LeadsNear (m t : Tables) (cs : List Command) (next : ℕ) : Type 0 where
  new : Tables
  led : LeadTo t cs new
  near : Near m new next

-- the two commands of a line of the border
jamb_taken : (shared : Bool) (m t : Tables) (next n : ℕ) (j : Jamb) → Near m t next → n < length m.lines → StandsAt m j
    → next + (if shared then 1 else 0) ≤ item_limit → All InRange (jamb_commands shared next n j)
    → LeadsNear m t (jamb_commands shared next n j) (next + (if shared then 1 else 0))
jamb_taken true m t next n j near lt h fits range =
    let first = Edit (Add (item.Side j.side)) in
    let second = Edit (Set n (item.Line (record j.line { right = next }))) in
    let mid = after t first in
    let sector = still_there m.sectors t.sectors j.side.sector h.sector (omega (arith, near.sectors)) in
    let room : lacks_room t.sides 1 ≡ false = ltb_no item_limit (length t.sides + 1) (omega (arith, near.sides, fits)) in
    let behind : Near m mid (next + 1) = record {
      vertices = near.vertices;
      sectors = near.sectors;
      sides = length-append t.sides (j.side ∷ []) ∙ omega (arith, near.sides);
      more = omega (arith, near.more);
      lines = near.lines;
    } in
    record {
      new = after mid second;
      led = (
        All-head InRange first (second ∷ []) range,
        both_passed 4 12 (lacks t.sectors j.side.sector) (lacks_room t.sides 1) sector room,
        (All-head InRange second [] (All-tail InRange first (second ∷ []) range), new_side_taken m mid next n j.line behind lt h.line, refl),
      );
      near = record {
        vertices = behind.vertices;
        sectors = behind.sectors;
        sides = behind.sides;
        more = behind.more;
        lines = length-set mid.lines n (record j.line { right = next }) ∙ behind.lines;
      };
    }
jamb_taken false m t next n j near lt h fits range =
    let first = Edit (Set j.line.right (item.Side j.side)) in
    let second = Edit (Set n (item.Line j.line)) in
    let mid = after t first in
    let sector = still_there m.sectors t.sectors j.side.sector h.sector (omega (arith, near.sectors)) in
    let side = still_there m.sides t.sides j.line.right h.line.right (omega (arith, near.sides, near.more)) in
    let behind : Near m mid next = record {
      vertices = near.vertices;
      sectors = near.sectors;
      sides = length-set t.sides j.line.right j.side ∙ near.sides;
      more = near.more;
      lines = near.lines;
    } in
    record {
      new = after mid second;
      led = (
        All-head InRange first (second ∷ []) range,
        both_passed 4 5 (lacks t.sectors j.side.sector) (lacks t.sides j.line.right) sector side,
        (All-head InRange second [] (All-tail InRange first (second ∷ []) range), set_line_taken m mid next n j.line behind lt h.line, refl),
      );
      near = record {
        vertices = behind.vertices;
        sectors = behind.sectors;
        sides = behind.sides ∙ omega arith;
        more = omega (arith, behind.more);
        lines = length-set mid.lines n j.line ∙ behind.lines;
      };
    }

-- the commands of any line
line_taken : (m t : Tables) (d : Door) (next n : ℕ) (o : Option Jamb) → Near m t next → n < length m.lines
    → ((j : Jamb) → o ≡ Some j → StandsAt m j) → next + sides_added m.lines o ≤ item_limit
    → All InRange (line_commands m.lines next n o) → LeadsNear m t (line_commands m.lines next n o) (next + sides_added m.lines o)
line_taken m t d next n None near lt h fits range = record {
  new = t;
  led = refl;
  near = record {
    vertices = near.vertices;
    sectors = near.sectors;
    sides = near.sides ∙ omega arith;
    more = omega (arith, near.more);
    lines = near.lines;
  };
}
line_taken m t d next n (Some j) near lt h fits range = jamb_taken (is_shared m.lines j.line.right) m t next n j near lt (h j refl) fits range

LeadTo-append : (old : Tables) (cs : List Command) (mid : Tables) (ds : List Command) (new : Tables) → LeadTo old cs mid → LeadTo mid ds new
    → LeadTo old (cs ++ ds) new
LeadTo-append old [] mid ds new h k = subst (λ (t : Tables). LeadTo t ds new) h k
LeadTo-append old (c ∷ cs) mid ds new h k = (h.0, h.1, LeadTo-append (after old c) cs mid ds new h.2 k)

-- the commands of all lines from one on
lines_taken : (m t : Tables) (d : Door) (next n : ℕ) (ls : List Line) → length m.sides ≤ item_limit → All (HasSector m.sectors) m.sides
    → All (HasEnds m.vertices) ls → All (HasSides m.sides) ls → n + length ls ≡ length m.lines → Near m t next
    → next + lines_sides m d ls ≤ item_limit → All InRange (lines_commands m d next n ls) → AreTaken t (lines_commands m d next n ls)
lines_taken m t d next n [] few sectors ends sides count near fits range = (t, refl)
lines_taken m t d next n (l ∷ ls) few sectors ends sides count near fits range =
    let added = sides_added m.lines (jamb_of m d l) in
    let front = line_commands m.lines next n (jamb_of m d l) in
    let back = lines_commands m d (next + added) (n + 1) ls in
    let sums : lines_sides m d (l ∷ ls) ≡ added + lines_sides m d ls = sum_by-cons (λ (k : Line). sides_added m.lines (jamb_of m d k)) l ls in
    let one =
    line_taken m t d next n (jamb_of m d l) near (omega (arith, count)) (λ j e. jamb_stands m d l j few sectors (All-head (HasEnds m.vertices) l ls ends) (All-head (HasSides m.sides) l ls sides) e)
    (omega (arith, fits, sums)) (all_front InRange front back range) in
    let others =
    lines_taken m one.new d (next + added) (n + 1) ls few sectors (All-tail (HasEnds m.vertices) l ls ends) (All-tail (HasSides m.sides) l ls sides) (omega (arith, count)) one.near (omega (arith, fits, sums))
    (all_back InRange front back range) in
    (others.0, LeadTo-append t front one.new back others.0 one.led others.1)

-- all commands of a door
pub door_taken : (m : Tables) (d : Door) (s : Sector) → WellFormed m → slice_get m.sectors d.sector ≡ Some s
    → length m.sides + lines_sides m d m.lines ≤ item_limit → All InRange (door_commands m d s) → AreTaken m (door_commands m d s)
door_taken m d s well is fits range =
    let first = Edit (Set d.sector (item.Sector (shut s))) in
    let mid = after m first in
    let near : Near m mid (length m.sides) = record {
      vertices = refl;
      sectors = length-set m.sectors d.sector (shut s);
      sides = refl;
      more = omega arith;
      lines = refl;
    } in
    let rest =
    lines_taken m mid d (length m.sides) 0 m.lines well.side_count well.side_sectors well.ends well.line_sides (omega arith) near fits (All-tail InRange first (lines_commands m d (length m.sides) 0 m.lines) range) in
    (rest.0, (All-head InRange first (lines_commands m d (length m.sides) 0 m.lines) range, passed (lacks m.sectors d.sector) 4 None (present m.sectors d.sector s is) refl, rest.1))
