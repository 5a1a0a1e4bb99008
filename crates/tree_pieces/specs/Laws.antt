-- The laws of exact geometry on which the node builder rests.
use Rattle.std.specs.Prelude.{◌≡◌, ℕ, ◌≤◌, Bool, List, All, ℤ, pos, neg_ℤ, ◌≤ℤ◌, ◌<ℤ◌, ◌<◌, IsTrue, Some, None, length, true}
use Rattle.tree_pieces.specs.declared.edge.Edge.{Edge}
use Rattle.lump_records.specs.declared.plane.Ray.{Ray}
use Rattle.tree_pieces.specs.declared.edge.Facing.{Facing}
use Rattle.tree_pieces.specs.declared.edge.Facing.TheVariants.{Along, Against}
use Rattle.lump_records.specs.declared.records.Bounds.{Bounds}
use Rattle.tree_pieces.specs.declared.frac.Frac.{Frac}
use Rattle.tree_pieces.specs.declared.piece.Piece.{Piece}
use Rattle.tree_pieces.specs.Plane.{IsEdge, NearRight, NearLeft}
use Rattle.tree_pieces.specs.Fractions.{IsFraction, AtMost, exact_value, twice_error, point_at, steps_between}
use Rattle.tree_pieces.specs.Pieces.{IsPiece, covers, cover, edge_at, ray_of}
use Rattle.tree_pieces.specs.Division.{parts_of, IsDivided}
use Rattle.tree_pieces.specs.Tree.{Tree, Divides, IsTreeOf, leaves, pieces, IsParted}
use Rattle.tree_pieces.specs.Convex.{IsConvex}
use Rattle.tree_pieces.specs.First.{first_pieces}
use Rattle.tree_pieces.specs.Boxes.{IsInBox, HoldsPiece, least_value, greatest_value}

-- ---- rounding
-- a rounded coordinate is within half a step of the exact one, and above it where it is half a step
-- away
abbrev pub RoundsToNearest : Type 0
RoundsToNearest =
    (a b : ℤ) (t : Frac) → IsFraction t →
    (neg_ℤ t.d <ℤ twice_error a b t) × (twice_error a b t ≤ℤ t.d)

-- a point that lies exactly on one side of a ray lies there to within rounding once it is rounded
abbrev pub RoundsNearItsSide : Type 0
RoundsNearItsSide =
    (r : Ray) (e : Edge) (t : Frac) → IsFraction t →
    (pos 0 ≤ℤ exact_value r e t → NearRight r (point_at e t)) ×
    (exact_value r e t ≤ℤ pos 0 → NearLeft r (point_at e t))

-- ---- points of one line
-- along a line the steps to the rounded points never fall
abbrev pub StepsRise : Type 0
StepsRise =
    (e : Edge) (s t : Frac) → IsFraction s → IsFraction t → AtMost s t →
    steps_between e.v1 (point_at e s) ≤ steps_between e.v1 (point_at e t)

-- rounded points at equal steps are one point
abbrev pub EqualStepsAreOnePoint : Type 0
EqualStepsAreOnePoint =
    (e : Edge) (s t : Frac) → IsFraction s → IsFraction t →
    steps_between e.v1 (point_at e s) ≡ steps_between e.v1 (point_at e t) →
    point_at e s ≡ point_at e t

-- a rounded point lies in the box of its line's ends
abbrev pub PointsStayInTheBox : Type 0
PointsStayInTheBox = (e : Edge) (t : Frac) → IsFraction t → IsInBox e (point_at e t)

-- ---- pieces
-- each piece covers a step of its side
abbrev pub EachPieceCoversAStep : Type 0
EachPieceCoversAStep =
    (lines : List Edge) (p : Piece) → IsPiece lines p →
    (k : ℕ) × (covers lines p.line p.side k p ≡ true)

-- the first list of lines that a map may have is made of pieces
abbrev pub FirstListHasPieces : Type 0
FirstListHasPieces =
    (lines : List Edge) → All IsEdge lines → All (IsPiece lines) (first_pieces lines)

-- and covers each step of each side that is there once
abbrev pub FirstListCoversEachSide : Type 0
FirstListCoversEachSide =
    (lines : List Edge) (line k : ℕ) → line < length lines →
    k < steps_between (edge_at lines line).v1 (edge_at lines line).v2 →
    (cover lines line Along k (first_pieces lines) ≡ 1) ×
    (IsTrue (edge_at lines line).has_left → cover lines line Against k (first_pieces lines) ≡ 1)

-- ---- boxes
-- a piece in a box on the right of a partition goes right whole
abbrev pub BoxesOnTheRight : Type 0
BoxesOnTheRight =
    (lines : List Edge) (partition p : Piece) (b : Bounds) →
    IsPiece lines p → HoldsPiece lines b p →
    pos 0 <ℤ least_value (ray_of lines partition) b →
    parts_of lines partition p ≡ record { right = Some p; left = None }

-- and one in a box on the left goes left whole
abbrev pub BoxesOnTheLeft : Type 0
BoxesOnTheLeft =
    (lines : List Edge) (partition p : Piece) (b : Bounds) →
    IsPiece lines p → HoldsPiece lines b p →
    greatest_value (ray_of lines partition) b <ℤ pos 0 →
    parts_of lines partition p ≡ record { right = None; left = Some p }

-- ---- division
-- a piece's parts lie exactly in their half-planes and keep its cover
abbrev pub PartsKeepTheirPiece : Type 0
PartsKeepTheirPiece =
    (lines : List Edge) (partition p : Piece) →
    All IsEdge lines → IsPiece lines partition → IsPiece lines p →
    IsDivided lines partition p (parts_of lines partition p)

-- ---- trees
-- each list of pieces has a tree, whatever lines are used above
abbrev pub EachListHasATree : Type 0
EachListHasATree =
    (lines : List Edge) (ps : List Piece) (used : List Bool) → (t : Tree) × Divides lines ps used t

-- and no list has two
abbrev pub NoListHasTwoTrees : Type 0
NoListHasTwoTrees =
    (lines : List Edge) (ps : List Piece) (used : List Bool) (t u : Tree) →
    Divides lines ps used t → Divides lines ps used u → t ≡ u

-- the pieces of the leaves cover what the list covers
abbrev pub TreesKeepCover : Type 0
TreesKeepCover =
    (lines : List Edge) (ps : List Piece) (t : Tree) → IsTreeOf lines ps t →
    (line : ℕ) (side : Facing) (k : ℕ) →
    cover lines line side k (pieces t) ≡ cover lines line side k ps

-- the pieces of the leaves are pieces
abbrev pub TreesHavePieces : Type 0
TreesHavePieces =
    (lines : List Edge) (ps : List Piece) (t : Tree) → IsTreeOf lines ps t →
    All (IsPiece lines) (pieces t)

-- each leaf is convex to within rounding
abbrev pub LeavesAreConvex : Type 0
LeavesAreConvex =
    (lines : List Edge) (ps : List Piece) (t : Tree) → IsTreeOf lines ps t →
    All (IsConvex lines) (leaves t)

-- each branch parts the pieces below it
abbrev pub BranchesPart : Type 0
BranchesPart =
    (lines : List Edge) (ps : List Piece) (t : Tree) → IsTreeOf lines ps t → IsParted lines t
