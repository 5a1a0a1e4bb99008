-- How many of a map's edges there are, at a corner and in all.
use Rattle.std.proofs.Common.{◌≡◌, ℕ, ◌+◌, ◌*◌, ◌<◌, ◌≤◌, Bool, true, false, cond, eqb, ◌&&◌, not, List, [], ◌∷◌, ◌++◌, length, take, flat_map, count_by, Some, refl, sym, ap, ◌∙◌, ⊎_elim, arith}
use Rattle.std.specs.List.{slice_get, AllByRecursion}
use Rattle.std.specs.BTreeMap.{BTreeMap}
use Rattle.std.proofs.lemmas.Bool.{and_left, and_right, ne_eqb}
use Rattle.std.proofs.lemmas.List.{append-nil, take_more, length-append, length-take}
use Rattle.std.proofs.lemmas.List.Concat.{flat_map-append}
use Rattle.std.proofs.lemmas.List.Elements.{recursion_from_All}
use Rattle.std.proofs.lemmas.List.Sums.{sum_by-append, sum_by-cons, count_by-le-length}
use Rattle.std.proofs.lemmas.Option.{slice_get_within, get_or_from_slice_get}
use Rattle.lump_records.specs.declared.records.Line.{Line}
use Rattle.lump_records.specs.declared.records.Side.{Side}
use Rattle.map_tables.specs.Tables.{Tables}
use Rattle.lump_records.specs.Sides.{has_left}
use Rattle.map_tables.specs.WellFormed.{WellFormed, HasEnds, HasSides}
use Rattle.map_checks.specs.declared.corners.Degrees.{Degrees}
use Rattle.map_checks.specs.Corners.{Edge, edges_of_line, edges, leaves_vertex, reaches}
use Rattle.map_checks.specs.Textures.{side_in, some_side}
use Rattle.map_checks.specs.Tallies.{HasCountsLeft, AddsEdges, IsTally}
use Rattle.map_checks.proofs.CornerList.{ClosedOutside}
use Rattle.map_checks.proofs.InOrder.{each-flat_map, each-weaker}
use Rattle.map_checks.proofs.SideLemmas.{has_left-true}

edges_more : (m : Tables) (n : ℕ) (l : Line) → slice_get m.lines n ≡ Some l
    → flat_map (edges_of_line m) (take (n + 1) m.lines) ≡ flat_map (edges_of_line m) (take n m.lines) ++ edges_of_line m l
edges_more m n l is =
    ap (flat_map (edges_of_line m)) (take_more m.lines n l (slice_get_within m.lines n l is) ∙ ap (λ x. take n m.lines ++ x ∷ []) (get_or_from_slice_get m.lines n l l is))
    ∙ flat_map-append (edges_of_line m) (take n m.lines) (l ∷ [])
    ∙ ap (λ r. flat_map (edges_of_line m) (take n m.lines) ++ r) (append-nil (edges_of_line m l))

count_by-append : {X : Type 0} (p : X → Bool) (xs ys : List X) → count_by p (xs ++ ys) ≡ count_by p xs + count_by p ys
count_by-append p xs ys = sum_by-append (λ x. cond (p x) 1 0) xs ys

-- some edges, and then others
pub adds_both : (old mid new : BTreeMap (ℕ × ℕ) Degrees) (es fs : List Edge) → AddsEdges old mid es → AddsEdges mid new fs → AddsEdges old new (es ++ fs)
adds_both old mid new es fs a b =
    record {
      outgoing = λ q. omega (arith, a.outgoing q, b.outgoing q, count_by-append (leaves_vertex q.0 q.1) es fs);
      incoming = λ q. omega (arith, a.incoming q, b.incoming q, count_by-append (reaches q.0 q.1) es fs);
    }

-- if there is room for two edges, there is room for one after the first
pub room_after : (old new : BTreeMap (ℕ × ℕ) Degrees) (e : Edge) → HasCountsLeft 2 old → AddsEdges old new (e ∷ []) → HasCountsLeft 1 new
room_after old new e h a =
    record {
      outgoing = λ q. omega (arith, h.outgoing q, a.outgoing q, count_by-le-length (leaves_vertex q.0 q.1) (e ∷ []));
      incoming = λ q. omega (arith, h.incoming q, a.incoming q, count_by-le-length (reaches q.0 q.1) (e ∷ []));
    }

-- the side with a number that was read
pub side_was : (m : Tables) (n k : ℕ) (s : Side) → slice_get m.sides n ≡ Some s → n ≡ k → side_in m k ≡ s
side_was m n k s read same = ap (side_in m) (sym same) ∙ get_or_from_slice_get m.sides n s some_side read

-- the edges of a line with these sides
pub edges_of_one : (m : Tables) (l : Line) (right : Side) → side_in m l.right ≡ right → has_left l ≡ false
    → edges_of_line m l ≡ (record { sector = right.sector; from = l.v1; to = l.v2 }) ∷ []
edges_of_one m l right is none =
    λ i. (record { sector = (is i).sector; from = l.v1; to = l.v2 }) ∷ cond (none i) ((record { sector = (side_in m l.left).sector; from = l.v2; to = l.v1 }) ∷ []) []

pub edges_of_two : (m : Tables) (l : Line) (right left : Side) → side_in m l.right ≡ right → side_in m l.left ≡ left → has_left l ≡ true
    → edges_of_line m l ≡ (record { sector = right.sector; from = l.v1; to = l.v2 }) ∷ (record { sector = left.sector; from = l.v2; to = l.v1 }) ∷ []
edges_of_two m l right left is at some =
    λ i. (record { sector = (is i).sector; from = l.v1; to = l.v2 }) ∷ cond (some i) ((record { sector = (at i).sector; from = l.v2; to = l.v1 }) ∷ []) []

-- one more line is counted
pub tally_more : (m : Tables) (n : ℕ) (l : Line) → slice_get m.lines n ≡ Some l → (old new : BTreeMap (ℕ × ℕ) Degrees)
    → IsTally (flat_map (edges_of_line m) (take n m.lines)) old → AddsEdges old new (edges_of_line m l)
    → IsTally (flat_map (edges_of_line m) (take (n + 1) m.lines)) new
tally_more m n l is old new t a =
    let more = edges_more m n l is in
    let done = flat_map (edges_of_line m) (take n m.lines) in
    record {
      outgoing = λ q.
          a.outgoing q ∙ ap (λ x. x + count_by (leaves_vertex q.0 q.1) (edges_of_line m l)) (t.outgoing q)
          ∙ sym (ap (count_by (leaves_vertex q.0 q.1)) more ∙ count_by-append (leaves_vertex q.0 q.1) done (edges_of_line m l));
      incoming = λ q.
          a.incoming q ∙ ap (λ x. x + count_by (reaches q.0 q.1) (edges_of_line m l)) (t.incoming q)
          ∙ sym (ap (count_by (reaches q.0 q.1)) more ∙ count_by-append (reaches q.0 q.1) done (edges_of_line m l));
    }

short : {X : Type 0} (x y : X) (b : Bool) → length (x ∷ cond b (y ∷ []) []) ≤ 2
short x y true = omega arith
short x y false = omega arith

edges-few : (m : Tables) (l : Line) → length (edges_of_line m l) ≤ 2
edges-few m l =
    let right : Edge = record { sector = (side_in m l.right).sector; from = l.v1; to = l.v2 } in
    let left : Edge = record { sector = (side_in m l.left).sector; from = l.v2; to = l.v1 } in
    short right left (has_left l)

all_edges-few : (m : Tables) (ls : List Line) → length (flat_map (edges_of_line m) ls) ≤ 2 * length ls
all_edges-few m [] = omega arith
all_edges-few m (l ∷ ls) =
    omega (arith, length-append (edges_of_line m l) (flat_map (edges_of_line m) ls), edges-few m l, all_edges-few m ls)

-- a map has too few lines for a count to overflow
pub tally_room : (m : Tables) (n : ℕ) (d : BTreeMap (ℕ × ℕ) Degrees) → n ≤ 32767 → IsTally (flat_map (edges_of_line m) (take n m.lines)) d → HasCountsLeft 2 d
tally_room m n d few t =
    let es = flat_map (edges_of_line m) (take n m.lines) in
    let long : length es ≤ 2 * n = omega (arith, all_edges-few m (take n m.lines), length-take n m.lines) in
    record {
      outgoing = λ q. omega (arith, t.outgoing q, count_by-le-length (leaves_vertex q.0 q.1) es);
      incoming = λ q. omega (arith, t.incoming q, count_by-le-length (reaches q.0 q.1) es);
    }

-- ---- the edges of a map are among its sectors and vertices

record InMap (m : Tables) (e : Edge) : Type 0 where
  sector : e.sector < length m.sectors
  from : e.from < length m.vertices
  to : e.to < length m.vertices

line-in_map : (m : Tables) → WellFormed m → (l : Line) → HasEnds m.vertices l → HasSides m.sides l → AllByRecursion (InMap m) (edges_of_line m l)
line-in_map m w l ends sides = (
  record { sector = w.side_sectors l.right some_side sides.right; from = ends.v1; to = ends.v2 },
  left (has_left l) (λ h. w.side_sectors l.left some_side (sides.left (has_left-true l h))),
)
  where
    left : (b : Bool) → (b ≡ true → (side_in m l.left).sector < length m.sectors)
        → AllByRecursion (InMap m) (cond b ((record { sector = (side_in m l.left).sector; from = l.v2; to = l.v1 }) ∷ []) [])
    left true h = (record { sector = h refl; from = ends.v2; to = ends.v1 }, tt)
    left false h = tt

edges-in_map : (m : Tables) → WellFormed m → AllByRecursion (InMap m) (edges m)
edges-in_map m w =
    let P : Line → Type 0 = λ l. HasEnds m.vertices l × HasSides m.sides l in
    each-flat_map (InMap m) (edges_of_line m) m.lines
    (each-weaker P (λ l. AllByRecursion (InMap m) (edges_of_line m l)) (λ l h. line-in_map m w l h.0 h.1) m.lines
    (recursion_from_All P m.lines (λ k d h. (w.ends k d h, w.line_sides k d h))))

none-counted : {X : Type 0} (p : X → Bool) (P : X → Type 0) → ((x : X) → P x → p x ≡ false) → (xs : List X) → AllByRecursion P xs
    → count_by p xs ≡ 0
none-counted p P h [] a = refl
none-counted p P h (x ∷ xs) a =
    sum_by-cons (λ x. cond (p x) 1 0) x xs ∙ (λ i. cond (h x a.0 i) 1 0 + none-counted p P h xs a.1 i)

-- no corner beyond the map's is open
pub closed_outside : (m : Tables) → WellFormed m → ClosedOutside m
closed_outside m w s v h =
    let none : (to : Edge → ℕ) → ((e : Edge) → InMap m e → to e < length m.vertices) → count_by (λ e. eqb e.sector s && eqb (to e) v) (edges m) ≡ 0 =
    λ to within.
    none-counted (λ e. eqb e.sector s && eqb (to e) v) (InMap m)
    (λ e i.
    ⊎_elim
    (λ sg. and_left (eqb e.sector s) (eqb (to e) v) (ne_eqb e.sector s (λ x. omega (arith, i.sector, x))))
    (λ vg. and_right (eqb e.sector s) (eqb (to e) v) (ne_eqb (to e) v (λ x. omega (arith, within e i, x))))
    h)
    (edges m) (edges-in_map m w) in
    λ i. not (eqb (none (λ e. e.from) (λ e x. x.from) i) (none (λ e. e.to) (λ e x. x.to) i))
