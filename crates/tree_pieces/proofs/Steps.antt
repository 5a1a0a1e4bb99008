-- Each piece covers a step, and rounded points and pieces lie in their boxes.
use Rattle.std.proofs.Common.{◌≡◌, refl, sym, ap, ◌∙◌, ℕ, ◌≤◌, ◌<◌, List, true, false, arith}
use Rattle.std.specs.Prelude.{nat_eq, nat_le, nat_lt, ◌&&◌}
use Rattle.std.specs.Int.{int_min, int_max}
use Rattle.std.proofs.lemmas.Bool.{eq-eqb, le-leb, lt-ltb, and_from}
use Rattle.std.proofs.lemmas.Int.{ints, int_min_is, int_max_is}
use Rattle.lump_records.proofs.Signs.{linear}
use Rattle.lump_records.specs.declared.records.Vertex.{Vertex}
use Rattle.tree_pieces.specs.declared.edge.Edge.{Edge}
use Rattle.tree_pieces.specs.declared.edge.Facing.{Facing}
use Rattle.tree_pieces.specs.declared.edge.Facing.TheVariants.{Along, Against}
use Rattle.tree_pieces.specs.declared.frac.Frac.{Frac}
use Rattle.tree_pieces.specs.declared.piece.Piece.{Piece}
use Rattle.tree_pieces.specs.Fractions.{IsFraction, AtMost, point_at, steps_between, step_within}
use Rattle.tree_pieces.specs.Pieces.{edge_of, first_end, last_end, same_side, same_place, covers, IsPiece}
use Rattle.tree_pieces.specs.Boxes.{IsInBox}
use Rattle.tree_pieces.proofs.Rounding.{steps_rise, steps_same, rounded_in}

-- ---- steps
same_self : (v : Vertex) → same_place v v ≡ true
same_self v = grind (arith, ints)

facing_self : (f : Facing) → same_side f f ≡ true
facing_self Along = refl
facing_self Against = refl

-- the steps to a piece's second end are more than those to its first
pub steps_grow : (lines : List Edge) (p : Piece) → IsPiece lines p → steps_between (edge_of lines p).v1 (first_end lines p) < steps_between (edge_of lines p).v1 (last_end lines p)
steps_grow lines p h =
    let e = edge_of lines p in
    let rising : AtMost p.from p.to = let r = h.rising in omega (arith, linear) in
    let up = steps_rise e p.from p.to h.from_in.positive h.to_in.positive h.from_in.at_least_zero rising in
    by_difference up
    (λ same.
    let one = steps_same e p.from p.to h.from_in.positive h.to_in.positive h.from_in.at_least_zero rising same in
    let t : same_place (first_end lines p) (last_end lines p) ≡ true = ap (same_place (first_end lines p)) (sym one) ∙ same_self (first_end lines p) in
    let f = h.ends_differ in
    let both : true ≡ false = sym t ∙ f in
    cc)
  where
    by_difference : {m n : ℕ} → m ≤ n → (m ≡ n → ⊥) → m < n
    by_difference l ne = grind (arith, ne)

-- a piece covers the step at its first end
pub piece_covers : (lines : List Edge) (p : Piece) → IsPiece lines p → covers lines p.line p.side (steps_between (edge_of lines p).v1 (first_end lines p)) p ≡ true
piece_covers lines p h =
    let m = steps_between (edge_of lines p).v1 (first_end lines p) in
    let n = steps_between (edge_of lines p).v1 (last_end lines p) in
    let w : step_within (edge_of lines p) (first_end lines p) (last_end lines p) m ≡ true =
    and_from (nat_le m m) (nat_lt m n) (le-leb m m (omega arith)) (lt-ltb m n (steps_grow lines p h)) in
    and_from (nat_eq p.line p.line && same_side p.side p.side) (step_within (edge_of lines p) (first_end lines p) (last_end lines p) m)
    (and_from (nat_eq p.line p.line) (same_side p.side p.side) (eq-eqb p.line p.line refl) (facing_self p.side)) w

-- ---- boxes
-- a rounded point lies in the box of its line
pub point_in_box : (e : Edge) (t : Frac) → IsFraction t → IsInBox e (point_at e t)
point_in_box e t h =
    let a = int_min_is e.v1.x e.v2.x in
    let b = int_max_is e.v1.x e.v2.x in
    let c = int_min_is e.v1.y e.v2.y in
    let d = int_max_is e.v1.y e.v2.y in
    let x = rounded_in (int_min e.v1.x e.v2.x)
    (int_max e.v1.x e.v2.x) e.v1.x e.v2.x t h.positive h.at_least_zero h.at_most_one (omega (arith, ints))
    (omega (arith, ints)) (omega (arith, ints)) (omega (arith, ints)) in
    let y = rounded_in (int_min e.v1.y e.v2.y)
    (int_max e.v1.y e.v2.y) e.v1.y e.v2.y t h.positive h.at_least_zero h.at_most_one (omega (arith, ints))
    (omega (arith, ints)) (omega (arith, ints)) (omega (arith, ints)) in
    record { left = x.0; right = x.1; bottom = y.0; top = y.1 }
