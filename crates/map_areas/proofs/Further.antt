-- Places of a line that lie between its ends, and which of two comes first.
use Rattle.std.proofs.Common.{◌≡◌, ◌≢◌, sym, ap, ◌∙◌, true, false, not, arith}
use Rattle.std.proofs.lemmas.Bool.{false≢true}
use Rattle.std.proofs.lemmas.Int.{ints, by_lt_z}
use Rattle.std.specs.Prelude.{ℤ, pos, ◌<ℤ◌, ◌≤ℤ◌}
use Rattle.lump_records.proofs.Signs.{linear}
use Rattle.lump_records.specs.declared.records.Vertex.{Vertex}
use Rattle.map_plane.proofs.CrossingPoints.{length_positive}
use Rattle.map_plane.proofs.Means.{is_at-same, vertex_is}
use Rattle.map_plane.proofs.Tests.{and_both, lt_is, not_says, or_left, or_right}
use Rattle.map_plane.specs.Meeting.{ends_at, is_at, is_on, is_under, spans_meet}
use Rattle.map_plane.specs.declared.places.PlacedLine.{PlacedLine}
use Rattle.map_areas.proofs.AlongLines.{far, in_line, on_from, on_to, one_place, spans_says, starts_at}
use Rattle.map_areas.specs.Stops.{far_along, comes_first}
use Rattle.map_areas.specs.Ways.{is_between}

pub equal : (u v : ℤ) → u ≤ℤ v → v ≤ℤ u → u ≡ v
equal u v h k = omega (arith, linear)

pub first_is : (l : PlacedLine) (p q : Vertex) → far l p <ℤ far l q → comes_first l p q ≡ true
unfolding far_along
first_is l p q h = lt_is (far l p) (far l q) h

pub not_first : (l : PlacedLine) (p q : Vertex) → comes_first l p q ≡ false → far l q ≤ℤ far l p
not_first l p q h = by_lt_z (far l p) (far l q) (λ lt. absurd (false≢true (sym h ∙ first_is l p q lt))) (λ ge. ge)

-- a place between the ends of a line lies on it, and isn't one of them
pub between_on : (l : PlacedLine) (p : Vertex) → is_between l p ≡ true → is_on l p ≡ true
between_on l p h = (and_both (is_on l p) (not (ends_at l p)) h).0

pub not_from : (l : PlacedLine) (p : Vertex) → is_between l p ≡ true → l.from ≢ p
unfolding ends_at
not_from l p h e =
    let none = not_says (ends_at l p) (and_both (is_on l p) (not (ends_at l p)) h).1 in
    false≢true (sym none ∙ or_left (is_at l.from p) (is_at l.to p) (is_at-same l.from p e))

pub not_to : (l : PlacedLine) (p : Vertex) → is_between l p ≡ true → l.to ≢ p
unfolding ends_at
not_to l p h e =
    let none = not_says (ends_at l p) (and_both (is_on l p) (not (ends_at l p)) h).1 in
    false≢true (sym none ∙ or_right (is_at l.from p) (is_at l.to p) (is_at-same l.to p e))

-- the line has a length then
in_point : (a b x : ℤ) → spans_meet a b x x ≡ true → a ≡ b → a ≡ x
unfolding spans_meet is_under
in_point a b x h e = grind (arith, ints)

ends_apart : (l : PlacedLine) (p : Vertex) → is_between l p ≡ true → l.from ≢ l.to
ends_apart l p h e =
    let s = spans_says l p (between_on l p h) in
    not_from l p h
    (vertex_is l.from p (in_point l.from.x l.to.x p.x s.0 (ap (λ (v : Vertex). v.x) e)) (in_point l.from.y l.to.y p.y s.1 (ap (λ (v : Vertex). v.y) e)))

pub between_length : (l : PlacedLine) (p : Vertex) → is_between l p ≡ true → pos 0 <ℤ far l l.to
between_length l p h = length_positive l.from l.to (ends_apart l p h)

-- and the place is further along it than where it begins, and less far than where it ends
pub between_far : (l : PlacedLine) (p : Vertex) → is_between l p ≡ true → (far l l.from <ℤ far l p) × (far l p <ℤ far l l.to)
between_far l p h =
    let long = between_length l p h in
    let on = between_on l p h in
    let in_it = in_line l p on in
    let start = starts_at l in
    let low = in_it.0 in
    let high = in_it.1 in (
      by_lt_z (far l l.from) (far l p) (λ lt. lt)
          (λ ge. absurd (not_from l p h (one_place l l.from p long (on_from l) on (equal (far l l.from) (far l p) (omega (arith, linear)) ge)))),
      by_lt_z (far l p) (far l l.to) (λ lt. lt)
          (λ ge. absurd (not_to l p h (one_place l l.to p long (on_to l) on (equal (far l l.to) (far l p) ge high)))),
    )
