-- A line after the changes is one of a map.
use Rattle.wad_import.specs.Once.{kept_number}
use Rattle.wad_import.specs.Added.{imported_vertices}
use Rattle.wad_import.proofs.OnceLemmas.{each_once-length, kept_place, kept_within}
use Rattle.std.proofs.Common.{◌≡◌, ◌≢◌, ℕ, ◌+◌, ◌-◌, ◌*◌, ◌/◌, ◌%◌, ◌<◌, ◌≤◌, Bool, true, false, ◌&&◌, ◌||◌, not, cond, nat_eq, length, get_or, refl, sym, ap, ◌∙◌, arith}
use Rattle.std.specs.Prelude.{ℤ, pos, nat_lt, nat_le, map, max, unsigned_abs, ◌-ℤ◌, IsTrue}
use Rattle.std.proofs.lemmas.Bool.{and_parts, and_from, both_ways, eq-eqb, eqb-true, le-leb, leb-true, ltb-true, not_from_false, not_from_true, or_left, or_right}
use Rattle.std.proofs.lemmas.Int.{ints}
use Rattle.std.proofs.lemmas.List.{get_or-take, length-map, length-take}
use Rattle.std.proofs.lemmas.List.Recursion.{max_bounds}
use Rattle.lump_records.specs.Drawing.{squared_distance, longest_squared}
use Rattle.lump_records.specs.Sides.{has_left, is_two_sided, no_side}
use Rattle.lump_records.specs.declared.records.Line.{Line}
use Rattle.lump_records.specs.declared.records.Vertex.{Vertex}
use Rattle.wad_levels.specs.Drawn.{DrawnLists, drawn_vertex, has_need, is_item_number, squared_length}
use Rattle.wad_levels.specs.declared.hindrance.LineNeed.TheVariants.{Vertices, RightSide, LeftSide, SomeLength, AtMostLongest}
use Rattle.map_tables.specs.Ranges.{IsLine}
use Rattle.map_tables.specs.WellFormed.{HasEnds, HasSides, nth_vertex}
use Rattle.wad_import.specs.Mended.{lacks_left_side, mended_side}
use Rattle.wad_import.specs.Imported.{kept_lines, reached_vertices, vertex_reach}
use Rattle.wad_import.specs.Refused.{has_line_codes}

-- ---- Lines

-- what is told of a line that has all that a build needs, over so many vertices and sides
pub record IsLinked (d : DrawnLists) (x : Line) : Type 0 where
  pub v1 : x.v1 < length d.vertices
  pub v2 : x.v2 < length d.vertices
  pub right : x.right < length d.sides
  pub left : (not (has_left x) || is_item_number x.left (length d.sides)) ≡ true
  pub some : 0 < squared_length d x
  pub short : squared_length d x ≤ longest_squared

pub number_is : (n count : ℕ) → is_item_number n count ≡ true → n < count
number_is n count h = ltb-true n count (and_parts (nat_lt n count) (nat_le n 32767) h).0

pub linked : (d : DrawnLists) (x : Line) → has_need d Vertices x ≡ true → has_need d RightSide x ≡ true → has_need d LeftSide x ≡ true
    → has_need d SomeLength x ≡ true → has_need d AtMostLongest x ≡ true → IsLinked d x
linked d x vs right left some short =
    let ends = and_parts (is_item_number x.v1 (length d.vertices)) (is_item_number x.v2 (length d.vertices)) vs in
    record {
      v1 = number_is x.v1 (length d.vertices) ends.0;
      v2 = number_is x.v2 (length d.vertices) ends.1;
      right = number_is x.right (length d.sides) right;
      left = left;
      some = ltb-true 0 (squared_length d x) some;
      short = leb-true (squared_length d x) longest_squared short;
    }

-- a line's vertices are among those that are reached
pub reached : (d : DrawnLists) (k n : ℕ) (e : Line) → k < length (kept_lines d) → (let x = get_or (kept_lines d) k e in n + 1 ≤ max (x.v1 + 1) (x.v2 + 1))
    → n < vertex_reach (kept_lines d)
reached d k n e h at =
    let most = max_bounds vertex_reach (λ (x : Line). max (x.v1 + 1) (x.v2 + 1)) refl (λ _ _. refl) (kept_lines d) k e h in
    omega (arith, most, at)

pub among : (d : DrawnLists) (n : ℕ) → n < vertex_reach (kept_lines d) → n < length d.vertices → n < length (reached_vertices d)
among d n h there = let count = length-take (vertex_reach (kept_lines d)) d.vertices in omega (arith, count, h, there)

none_between : (z : ℤ) → unsigned_abs (z -ℤ z) ≡ 0
none_between z = omega (arith, ints)

no_distance : (v : Vertex) → squared_distance v v ≡ 0
no_distance v = λ i. none_between v.x i * none_between v.x i + none_between v.y i * none_between v.y i

vertex_there : (d : DrawnLists) (n : ℕ) → n < vertex_reach (kept_lines d) → nth_vertex (reached_vertices d) n ≡ drawn_vertex d n
vertex_there d n h = get_or-take (vertex_reach (kept_lines d)) d.vertices n (record { x = pos 0; y = pos 0 }) h

-- the same with other flags
abbrev pub flagged : Line → ℕ → Line
flagged x flags = record x { flags = flags }

-- the same between the vertices of the map
abbrev pub joined : DrawnLists → Line → Line
joined d x = record x { v1 = kept_number (reached_vertices d) x.v1; v2 = kept_number (reached_vertices d) x.v2 }

-- a vertex of the map stands where the one of the level stood
stands : (d : DrawnLists) (n : ℕ) → n < vertex_reach (kept_lines d) → n < length (reached_vertices d)
    → nth_vertex (imported_vertices d) (kept_number (reached_vertices d) n) ≡ drawn_vertex d n
stands d n h within = kept_place (reached_vertices d) n within ∙ vertex_there d n h

pub ends_are : (d : DrawnLists) (x : Line) (flags : ℕ) → IsLinked d x → x.v1 < vertex_reach (kept_lines d) → x.v2 < vertex_reach (kept_lines d)
    → HasEnds (imported_vertices d) (joined d (flagged x flags))
ends_are d x flags link h1 h2 =
    let vs = reached_vertices d in
    let in1 = among d x.v1 h1 link.v1 in
    let in2 = among d x.v2 h2 link.v2 in
    let at1 = stands d x.v1 h1 in1 in
    let at2 = stands d x.v2 h2 in2 in
    let same : squared_distance (nth_vertex (imported_vertices d) (kept_number vs x.v1)) (nth_vertex (imported_vertices d) (kept_number vs x.v2)) ≡ squared_length d x =
    λ i. squared_distance (at1 i) (at2 i) in
    let short = link.short in
    let some = link.some in
    record {
      v1 = kept_within vs x.v1 in1;
      v2 = kept_within vs x.v2 in2;
      differ = λ is.
          let one : drawn_vertex d x.v1 ≡ drawn_vertex d x.v2 = sym at1 ∙ ap (nth_vertex (imported_vertices d)) is ∙ at2 in
          let none : squared_length d x ≡ 0 = ap (λ v. squared_distance v (drawn_vertex d x.v2)) one ∙ no_distance (drawn_vertex d x.v2) in
          omega (arith, some, none);
      short = omega (arith, same, short);
    }

left_found : (x : Line) (count : ℕ) (t : Bool) → nat_eq x.left no_side ≡ t → (not (not t) || is_item_number x.left count) ≡ true
    → x.left ≢ no_side → x.left < count
left_found x count true e h some = absurd (some (eqb-true x.left no_side e))
left_found x count false e h some = number_is x.left count h

left_fits : (x : Line) (count : ℕ) (t : Bool) → nat_eq x.left no_side ≡ t → (not (not t) || is_item_number x.left count) ≡ true
    → count ≤ 32767 → (nat_le x.left 32766 || t) ≡ true
left_fits x count true e h most = or_right (nat_le x.left 32766) true refl
left_fits x count false e h most =
    let within = number_is x.left count h in
    or_left (nat_le x.left 32766) false (le-leb x.left 32766 (omega (arith, within, most)))

pub sides_are : (d : DrawnLists) (x : Line) (flags : ℕ) → IsLinked d x → (IsTrue (is_two_sided (flagged x flags)) → x.left ≢ no_side)
    → HasSides (map mended_side d.sides) (joined d (flagged x flags))
sides_are d x flags link two =
    let count = length-map d.sides mended_side in
    let right = link.right in
    record {
      right = omega (arith, count, right);
      left = λ some. let found = left_found x (length d.sides) (nat_eq x.left no_side) refl link.left some in omega (arith, count, found);
      two_sided = two;
    }

pub line_is : (d : DrawnLists) (x : Line) (flags : ℕ) → IsLinked d x → has_line_codes x ≡ true → flags ≤ x.flags
    → x.v1 < vertex_reach (kept_lines d) → x.v2 < vertex_reach (kept_lines d) → length (reached_vertices d) ≤ 32767 → length d.sides ≤ 32767
    → IsLine (joined d (flagged x flags))
line_is d x flags link codes less h1 h2 few most =
    let vs = reached_vertices d in
    let in1 = kept_within vs x.v1 (among d x.v1 h1 link.v1) in
    let in2 = kept_within vs x.v2 (among d x.v2 h2 link.v2) in
    let count = each_once-length vs in
    let parts = and_parts (nat_le x.flags 32767 && nat_le x.special 32767) (nat_le x.tag 32767) codes in
    let two = and_parts (nat_le x.flags 32767) (nat_le x.special 32767) parts.0 in
    let flag = leb-true x.flags 32767 two.0 in
    let right = link.right in
    record {
      v1 = omega (arith, in1, count, few);
      v2 = omega (arith, in2, count, few);
      flags = omega (arith, flag, less);
      special = leb-true x.special 32767 two.1;
      tag = leb-true x.tag 32767 parts.1;
      right = omega (arith, right, most);
      left = left_fits x (length d.sides) (nat_eq x.left no_side) refl link.left most;
    }

-- the flag is gone
flag_off : (f : ℕ) → nat_eq (f / 4 % 2) 1 ≡ true → nat_eq ((f - 4) / 4 % 2) 1 ≡ true → ⊥
flag_off f h k =
    let a = eqb-true (f / 4 % 2) 1 h in
    let b = eqb-true ((f - 4) / 4 % 2) 1 k in
    omega (arith, a, b)

pub two_stays : (x : Line) → lacks_left_side x ≡ false → IsTrue (is_two_sided x) → x.left ≢ no_side
two_stays x h two = λ is.
    let none : has_left x ≡ false = not_from_true (nat_eq x.left no_side) (eq-eqb x.left no_side is) in
    both_ways (lacks_left_side x) h (and_from (is_two_sided x) (not (has_left x)) two (not_from_false (has_left x) none))

pub two_gone : (x : Line) → lacks_left_side x ≡ true → IsTrue (is_two_sided (flagged x (x.flags - 4))) → x.left ≢ no_side
two_gone x h two = absurd (flag_off x.flags (and_parts (is_two_sided x) (not (has_left x)) h).0 two)

-- what a fact of the line with other flags is of the changed line
pub by_flags : (P : Line → Type 0) (x : Line) (t : Bool) → lacks_left_side x ≡ t → (lacks_left_side x ≡ true → P (flagged x (x.flags - 4)))
    → (lacks_left_side x ≡ false → P x) → P (cond t (flagged x (x.flags - 4)) x)
by_flags P x true e f g = f e
by_flags P x false e f g = g e
