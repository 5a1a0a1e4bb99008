-- The parts by a ray and a line are those by a list of lines, and a crossing is a fraction.
use Rattle.std.proofs.Common.{◌≡◌, refl, subst, ⊎_elim, Bool, true, false}
use Rattle.std.specs.Prelude.{List, pos, int_lt}
use Rattle.lump_records.specs.declared.plane.Ray.{Ray}
use Rattle.tree_pieces.specs.declared.edge.Edge.{Edge}
use Rattle.tree_pieces.specs.declared.frac.Frac.{Frac}
use Rattle.tree_pieces.specs.declared.piece.Piece.{Piece}
use Rattle.tree_pieces.specs.declared.piece.Place.{Place}
use Rattle.tree_pieces.specs.declared.piece.Place.TheVariants.{Right, Left, Across}
use Rattle.tree_pieces.specs.Plane.{ray, vertex_value, dot, IsEdge}
use Rattle.tree_pieces.specs.Fractions.{crossing, exact_value, IsFraction}
use Rattle.tree_pieces.specs.Pieces.{edge_of, ray_of}
use Rattle.tree_pieces.specs.Division.{value_by, cut_at, parts_by, parts_of, place_of_piece}
use Rattle.tree_pieces.specs.Local.{IsLineRay, HasFractions, place_on, cut_on, parts_at, parts_on}
use Rattle.tree_pieces.proofs.Placing.{Means, place_means}
use Rattle.tree_pieces.proofs.Crossing.{crossing_down, crossing_up, crossing_in}
use Rattle.tree_pieces.proofs.Division.{crossing_small}

cut_same : (lines : List Edge) (p : Piece) (at : Frac) (b : Bool) → cut_on (edge_of lines p) p at b ≡ cut_at lines p at b
cut_same lines p at true = refl
cut_same lines p at false = refl

parts_same : (lines : List Edge) (partition p : Piece) (place : Place) → parts_at (ray_of lines partition) (edge_of lines p) p place ≡ parts_by lines partition p place
parts_same lines partition p Right = refl
parts_same lines partition p Left = refl
parts_same lines partition p Across = cut_same lines p (crossing (ray_of lines partition) (edge_of lines p)) (int_lt (pos 0) (value_by lines partition p p.from))

pub parts_on_is : (lines : List Edge) (partition p : Piece) → parts_on (ray_of lines partition) (edge_of lines p) p ≡ parts_of lines partition p
parts_on_is lines partition p = parts_same lines partition p (place_of_piece lines partition p)

pub crossing_fraction : (r : Ray) (e : Edge) (p : Piece) → IsLineRay r → IsEdge e → HasFractions p → place_on r e p ≡ Across → IsFraction (crossing r e)
crossing_fraction r e p hr he f a =
    let u = exact_value r e p.from in
    let w = exact_value r e p.to in
    let m = subst (Means u w (dot r (ray e p.side))) a (place_means u w (dot r (ray e p.side))) in
    let small = crossing_small r e hr.short he in
    let x = vertex_value r e.v1 in
    let y = vertex_value r e.v2 in
    ⊎_elim
    (λ d. crossing_in p.from (crossing r e) p.to f.from f.to (crossing_down x y p.from p.to f.from.positive f.to.positive f.rising d.0 d.1) small)
    (λ d. crossing_in p.from (crossing r e) p.to f.from f.to (crossing_up x y p.from p.to f.from.positive f.to.positive f.rising d.0 d.1) small) m
