-- A map stays well-formed under the edits of its sides.
use Rattle.std.proofs.Common.{◌≡◌, ◌≢◌, ℕ, ◌<◌, ◌≤◌, false, ◌&&◌, eqb, leb, List, [], ◌∷◌, ◌++◌, length, None, ◌∙◌, inl, inr, arith, get_or, length-append}
use Rattle.std.specs.List.{remove}
use Rattle.std.proofs.Math.ListN.{set}
use Rattle.std.proofs.lemmas.Bool.{eqb-false, eqb-true, eq-eqb, ne_eqb, or_parts, and_cases, cases_eq, cond-true, cond-false, le-leb, or_left, or_cases, leb-true, not-false}
use Rattle.std.proofs.lemmas.List.Elements.{All-push, All-weaker, All-map, All-set}
use Rattle.std.proofs.lemmas.List.{length-map, length-set}
use Rattle.std.proofs.lemmas.List.Edits.{length-remove}
use Rattle.lump_records.specs.declared.records.Side.{Side}
use Rattle.lump_records.specs.declared.records.Vertex.{Vertex}
use Rattle.lump_records.specs.declared.records.Line.{Line}
use Rattle.map_tables.specs.Tables.{Tables, no_side}
use Rattle.map_tables.specs.Ranges.{IsLine, IsSide}
use Rattle.map_tables.specs.WellFormed.{WellFormed, HasEnds, HasSides, HasSector}
use Rattle.map_tables.specs.Outcomes.{least}
use Rattle.map_tables.specs.Faults.{side_faults, set_side_faults, drop_side_faults, uses_side, has_left}
use Rattle.map_tables.specs.Edits.{with_side, with_side_at, without_side, line_without_side, lowered, lowered_left}
use Rattle.map_tables.proofs.ListLemmas.{All-remove, lowered_le, lowered_fits}
use Rattle.map_tables.proofs.FaultLemmas.{none_hold, has_room, none_passes, not_lacking}

-- a line keeps its sides if there are as many or more
pub sides_among : (old new : List Side) (l : Line) → length old ≤ length new → HasSides old l → HasSides new l
sides_among old new l more h =
    record { right = omega (arith, h.right); left = λ some. omega (arith, h.left some); two_sided = h.two_sided }

-- with one more side
pub with_side-keeps : (m : Tables) (s : Side) → WellFormed m → IsSide s → least (side_faults m s) ≡ None → WellFormed (with_side m s)
with_side-keeps m s w range fine =
    let none = none_hold (side_faults m s) fine in
    let at = not_lacking m.sectors s.sector none.0 in
    let room = has_room m.sides none.1.0 in
    let longer = length-append m.sides (s ∷ []) in
    record {
      name = w.name;
      vertices = w.vertices;
      sectors = w.sectors;
      sides = All-push IsSide m.sides s w.sides range;
      lines = w.lines;
      things = w.things;
      places = w.places;
      ends = w.ends;
      line_sides = All-weaker (HasSides m.sides) (HasSides (m.sides ++ s ∷ [])) (λ l. sides_among m.sides (m.sides ++ s ∷ []) l (omega arith)) m.lines w.line_sides;
      side_sectors = All-push (HasSector m.sectors) m.sides s w.side_sectors at;
      vertex_count = w.vertex_count;
      sector_count = w.sector_count;
      side_count = omega (arith, longer, room);
      line_count = w.line_count;
      thing_count = w.thing_count;
    }

-- with one side replaced
pub with_side_at-keeps : (m : Tables) (n : ℕ) (s : Side) → WellFormed m → IsSide s → least (set_side_faults m n s) ≡ None → WellFormed (with_side_at m n s)
with_side_at-keeps m n s w range fine =
    let none = none_hold (set_side_faults m n s) fine in
    let at = not_lacking m.sectors s.sector none.0 in
    let as_many = length-set m.sides n s in
    record {
      name = w.name;
      vertices = w.vertices;
      sectors = w.sectors;
      sides = All-set IsSide m.sides n s range w.sides;
      lines = w.lines;
      things = w.things;
      places = w.places;
      ends = w.ends;
      line_sides = All-weaker (HasSides m.sides) (HasSides (set m.sides n s)) (λ l. sides_among m.sides (set m.sides n s) l (omega arith)) m.lines w.line_sides;
      side_sectors = All-set (HasSector m.sectors) m.sides n s at w.side_sectors;
      vertex_count = w.vertex_count;
      sector_count = w.sector_count;
      side_count = omega (arith, as_many, w.side_count);
      line_count = w.line_count;
      thing_count = w.thing_count;
    }

-- a missing left side stays missing
pub left_missing : (n left : ℕ) → left ≡ no_side → lowered_left n left ≡ left
left_missing n left e = cond-true (eqb left no_side) left (lowered n left) (eq-eqb left no_side e)

-- an existing one is lowered
pub left_there : (n left : ℕ) → left ≢ no_side → lowered_left n left ≡ lowered n left
left_there n left e = cond-false (eqb left no_side) left (lowered n left) (ne_eqb left no_side e)

-- a line's left side isn't the one that it doesn't use
pub left_apart : (n : ℕ) (l : Line) → uses_side n l ≡ false → l.left ≢ no_side → l.left ≢ n
left_apart n l unused some same =
    let apart = or_parts (eqb l.right n) (has_left l && eqb l.left n) unused in
    elim (and_cases (has_left l) (eqb l.left n) apart.1) [
      | inl none ↦ some (eqb-true l.left no_side (not-false (eqb l.left no_side) none))
      | inr other ↦ eqb-false l.left n other same
    ]

-- a line that doesn't use a side has its sides once that side is removed
pub sides_without : (sides : List Side) (n : ℕ) (l : Line) → n < length sides → length sides ≤ 32767 → uses_side n l ≡ false → HasSides sides l → HasSides (remove sides n) (line_without_side n l)
sides_without sides n l at few unused h =
    let shorter = length-remove sides n at in
    let apart = or_parts (eqb l.right n) (has_left l && eqb l.left n) unused in
    let stays : l.left ≢ no_side → lowered_left n l.left < length (remove sides n) = λ some.
    rw (left_there n l.left some) (lowered_fits n l.left (length (remove sides n)) (omega arith) (omega (arith, h.left some)) (left_apart n l unused some)) in
    record {
      right = lowered_fits n l.right (length (remove sides n)) (omega arith) (omega (arith, h.right)) (eqb-false l.right n apart.0);
      left = λ some. stays (λ none. some (left_missing n l.left none ∙ none));
      two_sided = λ two none. let some = h.two_sided two in omega (arith, stays some);
    }

-- a line's numbers stay in range
pub range_without_side : (n : ℕ) (l : Line) → IsLine l → IsLine (line_without_side n l)
range_without_side n l h =
    record {
      v1 = h.v1;
      v2 = h.v2;
      flags = h.flags;
      special = h.special;
      tag = h.tag;
      right = omega (arith, lowered_le n l.right, h.right);
      left = elim (cases_eq l.left no_side) [
        | inl none ↦ rw (left_missing n l.left none) h.left
        | inr some ↦
            let short : l.left ≤ 32766 = elim (or_cases (leb l.left 32766) (eqb l.left no_side) h.left) [
              | inl fits ↦ leb-true l.left 32766 fits
              | inr none ↦ absurd (some (eqb-true l.left no_side none))
            ] in
            rw (left_there n l.left some) (or_left (leb (lowered n l.left) 32766) (eqb (lowered n l.left) no_side) (le-leb (lowered n l.left) 32766 (omega (arith, lowered_le n l.left))))
      ];
    }

-- a line's ends don't depend on its sides
pub ends_without_side : (vs : List Vertex) (n : ℕ) (l : Line) → HasEnds vs l → HasEnds vs (line_without_side n l)
ends_without_side vs n l h = record { v1 = h.v1; v2 = h.v2; differ = h.differ; short = h.short }

-- without a side that no line uses
pub without_side-keeps : (m : Tables) (n : ℕ) → WellFormed m → least (drop_side_faults m n) ≡ None → WellFormed (without_side m n)
without_side-keeps m n w fine =
    let none = none_hold (drop_side_faults m n) fine in
    let at = not_lacking m.sides n none.0 in
    let unused = none_passes (uses_side n) m.lines none.1.0 in
    let fewer = length-remove m.sides n at in
    let as_many = length-map m.lines (line_without_side n) in
    record {
      name = w.name;
      vertices = w.vertices;
      sectors = w.sectors;
      sides = All-remove IsSide m.sides n w.sides;
      lines = All-map IsLine (line_without_side n) m.lines (λ k d h. range_without_side n (get_or m.lines k d) (w.lines k d h));
      things = w.things;
      places = w.places;
      ends = All-map (HasEnds m.vertices) (line_without_side n) m.lines (λ k d h. ends_without_side m.vertices n (get_or m.lines k d) (w.ends k d h));
      line_sides = All-map (HasSides (remove m.sides n)) (line_without_side n) m.lines (λ k d h. sides_without m.sides n (get_or m.lines k d) at w.side_count (unused k d h) (w.line_sides k d h));
      side_sectors = All-remove (HasSector m.sectors) m.sides n w.side_sectors;
      vertex_count = w.vertex_count;
      sector_count = w.sector_count;
      side_count = omega (arith, fewer, w.side_count);
      line_count = rw as_many w.line_count;
      thing_count = w.thing_count;
    }
