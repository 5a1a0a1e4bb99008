-- The lines of a well-formed map may be drawn, and those of a list that can be built.
use Rattle.std.proofs.Common.{◌≡◌, ◌≢◌, refl, sym, ap, ◌∙◌, ℕ, zero, suc, ◌+◌, ◌*◌, ◌<◌, ⊎_elim, List, [], ◌∷◌, ◌++◌, length, map, take, Some, slice_get, subst, add-one, arith, All}
use Rattle.std.specs.Prelude.{ℤ, pos, negsuc, ◌+ℤ◌, ◌-ℤ◌, ◌*ℤ◌, ◌<ℤ◌, unsigned_abs, AllPairs}
use Rattle.std.proofs.lemmas.Int.{ints}
use Rattle.std.proofs.lemmas.Bool.{cases_lt}
use Rattle.std.proofs.lemmas.List.{length-map}
use Rattle.std.proofs.lemmas.List.Elements.{All-map, All-get_or, All-nil, All-cons, All-append, All-head, All-tail}
use Rattle.lump_records.specs.declared.records.Line.{Line}
use Rattle.lump_records.specs.declared.records.Side.{Side}
use Rattle.lump_records.specs.declared.records.Vertex.{Vertex}
use Rattle.lump_records.specs.Drawing.{IsDrawable, squared_distance}
use Rattle.map_tables.specs.Tables.{Tables}
use Rattle.map_tables.specs.WellFormed.{WellFormed, HasEnds, nth_vertex}
use Rattle.tree_pieces.specs.declared.edge.Edge.{Edge}
use Rattle.tree_pieces.specs.Plane.{IsEdge}
use Rattle.tree_pieces.specs.Edges.{edge_between, edges_in, edges_of, IsBuildable}
use Rattle.tree_pieces.proofs.ItemReads.{one_more, mapped}
use Rattle.tree_pieces.proofs.Lengths.{square_not_negative}
use Rattle.lump_records.proofs.Signs.{linear}

-- the square of a number is that of its size
square_is : (z : ℤ) → pos (unsigned_abs z * unsigned_abs z) ≡ z *ℤ z
square_is (pos n) = refl
square_is (negsuc n) = refl

-- the squared distance in whole numbers with a sign
pub distance_is : (u v : Vertex) → pos (squared_distance u v) ≡ (v.x -ℤ u.x) *ℤ (v.x -ℤ u.x) +ℤ (v.y -ℤ u.y) *ℤ (v.y -ℤ u.y)
distance_is u v =
    let x = square_is (v.x -ℤ u.x) in
    let y = square_is (v.y -ℤ u.y) in
    omega (arith, ints)

square_positive : (z : ℤ) → (z ≡ pos 0 → ⊥) → pos 0 <ℤ (z *ℤ z)
square_positive (pos zero) ne = absurd (ne refl)
square_positive (pos (suc n)) ne = omega (arith, ints)
square_positive (negsuc n) ne = omega (arith, ints)

-- different places are at a distance
pub apart_is : (u v : Vertex) → u ≢ v → pos 0 <ℤ ((v.x -ℤ u.x) *ℤ (v.x -ℤ u.x) +ℤ (v.y -ℤ u.y) *ℤ (v.y -ℤ u.y))
apart_is u v ne =
    let x = square_not_negative (v.x -ℤ u.x) in
    let y = square_not_negative (v.y -ℤ u.y) in
    by_eq (v.x -ℤ u.x)
    (λ dx. by_eq (v.y -ℤ u.y)
    (λ dy. absurd (ne (same dx dy)))
    (λ dy. let p = square_positive (v.y -ℤ u.y) dy in omega (arith, linear)))
    (λ dx. let p = square_positive (v.x -ℤ u.x) dx in omega (arith, linear))
  where
    by_eq : {A : Type 0} (z : ℤ) → (z ≡ pos 0 → A) → ((z ≡ pos 0 → ⊥) → A) → A
    by_eq (pos zero) f g = f refl
    by_eq (pos (suc n)) f g = g (λ e. cc)
    by_eq (negsuc n) f g = g (λ e. cc)

    same : v.x -ℤ u.x ≡ pos 0 → v.y -ℤ u.y ≡ pos 0 → u ≡ v
    same dx dy =
        let x : u.x ≡ v.x = omega (arith, linear) in
        let y : u.y ≡ v.y = omega (arith, linear) in
        let across : ℤ → Vertex = λ a. record { x = a; y = u.y } in
        let upward : ℤ → Vertex = λ b. record { x = v.x; y = b } in
        ap across x ∙ ap upward y

-- vertices with different numbers differ
numbers_tell : (vs : List Vertex) → AllPairs (λ v w. v ≢ w) vs → (i j : ℕ) → i < length vs → j < length vs → i ≢ j → nth_vertex vs i ≢ nth_vertex vs j
numbers_tell vs all i j hi hj ne =
    ⊎_elim
    (λ l. all i j _ l hj)
    (λ g. let l : j < i = omega arith in λ e. all j i _ l hi (sym e))
    (cases_lt i j)

-- a line of a well-formed map may be drawn
pub edge_is : (m : Tables) → WellFormed m → (l : Line) → HasEnds m.vertices l → IsEdge (edge_between m.vertices l)
edge_is m h l ends =
    let u = nth_vertex m.vertices l.v1 in
    let v = nth_vertex m.vertices l.v2 in
    let d = distance_is u v in
    let s = ends.short in
    record {
      start = All-get_or IsDrawable m.vertices l.v1 _ ends.v1 h.vertices;
      end = All-get_or IsDrawable m.vertices l.v2 _ ends.v2 h.vertices;
      apart = apart_is u v (numbers_tell m.vertices h.places l.v1 l.v2 ends.v1 ends.v2 ends.differ);
      short = omega (arith, ints);
    }

-- so do all of them
pub edges_are : (m : Tables) → WellFormed m → All IsEdge (edges_of m)
edges_are m h = All-map IsEdge (edge_between m.vertices) m.lines (each m.lines h.ends)
  where
    each : (ls : List Line) → All (HasEnds m.vertices) ls → All (λ l. IsEdge (edge_between m.vertices l)) ls
    each [] a = All-nil (λ (l : Line). IsEdge (edge_between m.vertices l))
    each (l ∷ ls) a =
        All-cons (λ (l : Line). IsEdge (edge_between m.vertices l)) l ls (edge_is m h l (All-head (HasEnds m.vertices) l ls a))
        (each ls (All-tail (HasEnds m.vertices) l ls a))

-- ---- the line of a piece
-- a map has as many edges as lines
pub as_many : (m : Tables) → length (edges_of m) ≡ length m.lines
as_many m = length-map m.lines (edge_between m.vertices)

-- ---- the lines of a list
-- lines that can be built may be drawn
pub buildable_drawn : (vs : List Vertex) (sides : List Side) (ls : List Line) → All (IsBuildable vs sides) ls → All IsEdge (edges_in vs ls)
buildable_drawn vs sides ls a = All-map IsEdge (edge_between vs) ls (λ k d l. (a k d l).edge)

pub buildable_more : (vs : List Vertex) (sides : List Side) (ls : List Line) (n : ℕ) (l : Line)
    → All (IsBuildable vs sides) (take n ls) → slice_get ls n ≡ Some l → IsBuildable vs sides l
    → All (IsBuildable vs sides) (take (n + 1) ls)
buildable_more vs sides ls n l a at h =
    subst (All (IsBuildable vs sides)) (one_more ls n l at)
    (All-append (IsBuildable vs sides) (take n ls) (l ∷ []) a (All-cons (IsBuildable vs sides) l [] h (All-nil (IsBuildable vs sides))))

pub edges_more : (vs : List Vertex) (ls : List Line) (n : ℕ) (l : Line) (es new : List Edge) (e : Edge) → es
    ≡ map (edge_between vs) (take n ls) → slice_get ls n ≡ Some l → e ≡ edge_between vs l → new ≡ es ++ e ∷ [] → new
    ≡ map (edge_between vs) (take (n + 1) ls)
edges_more vs ls n l es new e so_far at is pushed =
    pushed
    ∙ ap (λ (xs : List Edge). xs ++ e ∷ []) so_far
    ∙ ap (λ (x : Edge). map (edge_between vs) (take n ls) ++ x ∷ []) is
    ∙ mapped (edge_between vs) ls n l at
    ∙ ap (λ (i : ℕ). map (edge_between vs) (take i ls)) (sym (add-one n))
