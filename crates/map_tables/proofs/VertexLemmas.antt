-- A map stays well-formed under the edits of its vertices.
use Rattle.std.proofs.Common.{◌≡◌, ◌≢◌, ℕ, ◌<◌, ◌+◌, true, false, ◌&&◌, not, eqb, List, [], ◌∷◌, ◌++◌, length, None, refl, sym, subst, inl, inr, arith, get_or, length-append}
use Rattle.std.specs.List.{remove, enumerate_from}
use Rattle.std.proofs.Math.ListN.{set}
use Rattle.std.proofs.lemmas.Bool.{both_ways, and_from, and_cases, or_parts, eqb-false, ne_eqb, ltb-false, not_from_false}
use Rattle.std.proofs.lemmas.Bool.Decides.{Decides-int_eq}
use Rattle.std.proofs.lemmas.List.Elements.{All-push, All-weaker, All-map, All-set}
use Rattle.std.proofs.lemmas.List.Quantifiers.{all_pairs_push, all_pairs_remove}
use Rattle.std.proofs.lemmas.List.{get_or_append_left, length-map, length-set, get_or-set_other}
use Rattle.std.proofs.lemmas.List.Edits.{length-remove}
use Rattle.std.proofs.lemmas.List.FromFn.{length-enumerate_from, get_or-enumerate_from}
use Rattle.lump_records.specs.declared.records.Vertex.{Vertex}
use Rattle.lump_records.specs.declared.records.Line.{Line}
use Rattle.lump_records.specs.declared.records.Side.{Side}
use Rattle.map_tables.specs.Tables.{Tables}
use Rattle.map_tables.specs.Ranges.{IsVertex, IsLine, squared_distance, longest_squared}
use Rattle.map_tables.specs.WellFormed.{WellFormed, HasEnds, HasSides, nth_vertex}
use Rattle.map_tables.specs.Outcomes.{least}
use Rattle.map_tables.specs.Faults.{vertex_faults, set_vertex_faults, drop_vertex_faults, is_place, is_taken_beside, is_too_long, uses_vertex}
use Rattle.map_tables.specs.Edits.{with_vertex, with_vertex_at, without_vertex, line_without_vertex, lowered}
use Rattle.map_tables.proofs.ListLemmas.{All-remove, all_pairs_set, lowered_le, lowered_fits, lowered_apart, get_or-lowered}
use Rattle.map_tables.proofs.FaultLemmas.{none_hold, has_room, none_passes, not_lacking}

-- a vertex is at its own place
pub own_place : (v : Vertex) → is_place v v ≡ true
own_place v = and_from _ _ ((Decides-int_eq v.x v.x).1 refl) ((Decides-int_eq v.y v.y).1 refl)

-- a line keeps its ends if vertices are added
pub ends_more : (vs : List Vertex) (v : Vertex) (l : Line) → HasEnds vs l → HasEnds (vs ++ v ∷ []) l
ends_more vs v l h =
    let longer = length-append vs (v ∷ []) in
    let first : nth_vertex (vs ++ v ∷ []) l.v1 ≡ nth_vertex vs l.v1 = get_or_append_left vs (v ∷ []) _ l.v1 h.v1 in
    let second : nth_vertex (vs ++ v ∷ []) l.v2 ≡ nth_vertex vs l.v2 = get_or_append_left vs (v ∷ []) _ l.v2 h.v2 in
    record {
      v1 = omega (arith, longer, h.v1);
      v2 = omega (arith, longer, h.v2);
      differ = h.differ;
      short = rw (first, second) h.short;
    }

-- with a vertex at a free place
pub with_vertex-keeps : (m : Tables) (v : Vertex) → WellFormed m → IsVertex v → least (vertex_faults m v) ≡ None → WellFormed (with_vertex m v)
with_vertex-keeps m v w range fine =
    let none = none_hold (vertex_faults m v) fine in
    let free = none_passes (is_place v) m.vertices none.0 in
    let room = has_room m.vertices none.1.0 in
    let longer = length-append m.vertices (v ∷ []) in
    record {
      name = w.name;
      vertices = All-push IsVertex m.vertices v w.vertices range;
      sectors = w.sectors;
      sides = w.sides;
      lines = w.lines;
      things = w.things;
      places = all_pairs_push (λ v w. v ≢ w) m.vertices v w.places (λ k d h e. both_ways (is_place v v) (subst (λ u. is_place v u ≡ false) e (free k d h)) (own_place v));
      ends = All-weaker (HasEnds m.vertices) (HasEnds (m.vertices ++ v ∷ [])) (ends_more m.vertices v) m.lines w.ends;
      line_sides = w.line_sides;
      side_sectors = w.side_sectors;
      vertex_count = omega (arith, longer, room);
      sector_count = w.sector_count;
      side_count = w.side_count;
      line_count = w.line_count;
      thing_count = w.thing_count;
    }

-- a line that doesn't use a vertex has its ends once that vertex is removed
pub ends_without : (vs : List Vertex) (n : ℕ) (l : Line) → n < length vs → uses_vertex n l ≡ false → HasEnds vs l → HasEnds (remove vs n) (line_without_vertex n l)
ends_without vs n l at unused h =
    let shorter = length-remove vs n at in
    let apart = or_parts (eqb l.v1 n) (eqb l.v2 n) unused in
    let apart1 : l.v1 ≢ n = eqb-false l.v1 n apart.0 in
    let apart2 : l.v2 ≢ n = eqb-false l.v2 n apart.1 in
    let first : nth_vertex (remove vs n) (lowered n l.v1) ≡ nth_vertex vs l.v1 = get_or-lowered vs n l.v1 _ at apart1 in
    let second : nth_vertex (remove vs n) (lowered n l.v2) ≡ nth_vertex vs l.v2 = get_or-lowered vs n l.v2 _ at apart2 in
    record {
      v1 = lowered_fits n l.v1 (length (remove vs n)) (omega arith) (omega (arith, h.v1)) apart1;
      v2 = lowered_fits n l.v2 (length (remove vs n)) (omega arith) (omega (arith, h.v2)) apart2;
      differ = lowered_apart n l.v1 l.v2 apart1 apart2 h.differ;
      short = rw (first, second) h.short;
    }

-- a line's numbers stay in range
pub range_without_vertex : (n : ℕ) (l : Line) → IsLine l → IsLine (line_without_vertex n l)
range_without_vertex n l h =
    record {
      v1 = omega (arith, lowered_le n l.v1, h.v1);
      v2 = omega (arith, lowered_le n l.v2, h.v2);
      flags = h.flags;
      special = h.special;
      tag = h.tag;
      right = h.right;
      left = h.left;
    }

-- a line's sides don't depend on its vertices
pub sides_without_vertex : (sides : List Side) (n : ℕ) (l : Line) → HasSides sides l → HasSides sides (line_without_vertex n l)
sides_without_vertex sides n l h = record { right = h.right; left = h.left; two_sided = h.two_sided }

-- without a vertex that no line uses
pub without_vertex-keeps : (m : Tables) (n : ℕ) → WellFormed m → least (drop_vertex_faults m n) ≡ None → WellFormed (without_vertex m n)
without_vertex-keeps m n w fine =
    let none = none_hold (drop_vertex_faults m n) fine in
    let at = not_lacking m.vertices n none.0 in
    let unused = none_passes (uses_vertex n) m.lines none.1.0 in
    let fewer = length-remove m.vertices n at in
    let as_many = length-map m.lines (line_without_vertex n) in
    record {
      name = w.name;
      vertices = All-remove IsVertex m.vertices n w.vertices;
      sectors = w.sectors;
      sides = w.sides;
      lines = All-map IsLine (line_without_vertex n) m.lines (λ k d h. range_without_vertex n (get_or m.lines k d) (w.lines k d h));
      things = w.things;
      places = all_pairs_remove (λ v w. v ≢ w) m.vertices n at w.places;
      ends = All-map (HasEnds (remove m.vertices n)) (line_without_vertex n) m.lines (λ k d h. ends_without m.vertices n (get_or m.lines k d) at (unused k d h) (w.ends k d h));
      line_sides = All-map (HasSides m.sides) (line_without_vertex n) m.lines (λ k d h. sides_without_vertex m.sides n (get_or m.lines k d) (w.line_sides k d h));
      side_sectors = w.side_sectors;
      vertex_count = omega (arith, fewer, w.vertex_count);
      sector_count = w.sector_count;
      side_count = w.side_count;
      line_count = rw as_many w.line_count;
      thing_count = w.thing_count;
    }

-- no other vertex is at the place
pub none_beside : (vs : List Vertex) (n : ℕ) (v : Vertex) → is_taken_beside vs n v ≡ false → (k : ℕ) (d : Vertex) → k < length vs → k ≢ n → is_place v (get_or vs k d) ≡ false
none_beside vs n v free k d h apart =
    let many = length-enumerate_from 0 vs in
    let passes = none_passes (λ w. not (eqb w.0 n) && is_place v w.1) (enumerate_from 0 vs) free k (0, d) (omega (arith, many)) in
    let it = get_or-enumerate_from 0 vs k (0, d) h in
    let both : (not (eqb (0 + k) n) && is_place v (get_or vs k d)) ≡ false = subst (λ w. (not (eqb w.0 n) && is_place v w.1) ≡ false) it passes in
    let other : eqb (0 + k) n ≡ false = ne_eqb (0 + k) n (λ e. apart (omega arith)) in
    elim (and_cases (not (eqb (0 + k) n)) (is_place v (get_or vs k d)) both) [
      | inl same ↦ absurd (both_ways (not (eqb (0 + k) n)) same (not_from_false (eqb (0 + k) n) other))
      | inr away ↦ away
    ]

-- a line has its ends after a vertex has moved, if it isn't too long then
pub ends_moved : (vs : List Vertex) (n : ℕ) (v : Vertex) (l : Line) → (uses_vertex n l && is_too_long (set vs n v) l) ≡ false → HasEnds vs l → HasEnds (set vs n v) l
ends_moved vs n v l fits h =
    let as_many = length-set vs n v in
    record {
      v1 = rw as_many h.v1;
      v2 = rw as_many h.v2;
      differ = h.differ;
      short = elim (and_cases (uses_vertex n l) (is_too_long (set vs n v) l) fits) [
        | inl unused ↦
            let apart = or_parts (eqb l.v1 n) (eqb l.v2 n) unused in
            let first : nth_vertex (set vs n v) l.v1 ≡ nth_vertex vs l.v1 = get_or-set_other vs n l.v1 v _ (eqb-false l.v1 n apart.0) in
            let second : nth_vertex (set vs n v) l.v2 ≡ nth_vertex vs l.v2 = get_or-set_other vs n l.v2 v _ (eqb-false l.v2 n apart.1) in
            rw (first, second) h.short
        | inr short ↦ ltb-false longest_squared (squared_distance (nth_vertex (set vs n v) l.v1) (nth_vertex (set vs n v) l.v2)) short
      ];
    }

-- with a vertex moved to a place where no other is
pub with_vertex_at-keeps : (m : Tables) (n : ℕ) (v : Vertex) → WellFormed m → IsVertex v → least (set_vertex_faults m n v) ≡ None → WellFormed (with_vertex_at m n v)
with_vertex_at-keeps m n v w range fine =
    let none = none_hold (set_vertex_faults m n v) fine in
    let at = not_lacking m.vertices n none.0 in
    let free = none_beside m.vertices n v none.1.0 in
    let fits = none_passes (λ l. uses_vertex n l && is_too_long (set m.vertices n v) l) m.lines none.1.1.0 in
    let as_many = length-set m.vertices n v in
    record {
      name = w.name;
      vertices = All-set IsVertex m.vertices n v range w.vertices;
      sectors = w.sectors;
      sides = w.sides;
      lines = w.lines;
      things = w.things;
      places = all_pairs_set (λ v w. v ≢ w) m.vertices n v at w.places (λ k d h apart.
          let other = free k d h apart in (
            λ e. both_ways (is_place v v) (subst (λ u. is_place v u ≡ false) e other) (own_place v),
            λ e. both_ways (is_place v v) (subst (λ u. is_place v u ≡ false) (sym e) other) (own_place v),
          ));
      ends = λ k d h. ends_moved m.vertices n v (get_or m.lines k d) (fits k d h) (w.ends k d h);
      line_sides = w.line_sides;
      side_sectors = w.side_sectors;
      vertex_count = rw as_many w.vertex_count;
      sector_count = w.sector_count;
      side_count = w.side_count;
      line_count = w.line_count;
      thing_count = w.thing_count;
    }
