use Rattle.std.proofs.Common.{◌≡◌, sym, ap, ◌∙◌, Option, Some, None}
use Rattle.std.specs.Prelude.{ℤ, if◌then◌else◌}
use Rattle.lump_records.specs.declared.records.Vertex.{Vertex}
use Rattle.tree_pieces.specs.declared.edge.Edge.{Edge}
use Rattle.tree_pieces.specs.declared.frac.Frac.{Frac}
use Rattle.tree_pieces.specs.declared.piece.Piece.{Piece}
use Rattle.tree_pieces.specs.declared.piece.Parts.{Parts}
use Rattle.tree_pieces.specs.Fractions.{point_at, rounded}
use Rattle.tree_pieces.specs.Pieces.{same_place}
use Rattle.tree_pieces.specs.Local.{kept_on, cut_on}
use Rattle.tree_pieces.proofs.dividing.cut.Goals as goal
use Rattle.tree_pieces.proofs.dividing.cut.Goals.{After-kept-after}

-- two coordinates are the place
there : (v : Vertex) (e : Edge) (t : Frac) → v.x ≡ rounded e.v1.x e.v2.x t → v.y ≡ rounded e.v1.y e.v2.y t → v ≡ point_at e t
there v e t f g =
    let across : ℤ → Vertex = λ a. record { x = a; y = v.y } in
    let upward : ℤ → Vertex = λ b. record { x = rounded e.v1.x e.v2.x t; y = b } in
    ap across f ∙ ap upward g

-- a part by its rounded ends
part : (e : Edge) (q : Piece) (u v : Vertex) (o : Option Piece) → u ≡ point_at e q.from → v ≡ point_at e q.to → o ≡ (if same_place u v then None else Some q) → o ≡ kept_on e q
part e q u v o f g h =
    h ∙ ap (λ (x : Vertex). (if same_place x v then None else Some q)) f
    ∙ ap (λ (x : Vertex). (if same_place (point_at e q.from) x then None else Some q)) g

record AreParts (e : Edge) (p : Piece) (at : Frac) (before after : Option Piece) : Type 0 where
  before_is : before ≡ kept_on e (record p { to = at })
  after_is : after ≡ kept_on e (record p { from = at })

parts : (c : After-kept-after) → AreParts c.args.edge c.args.piece.now c.args.at c.kept-before.result c.kept-after.result
parts c =
    let e = c.args.edge in
    let p = c.args.piece.now in
    let first = there c.point-first.result e p.from c.point-first.ensures.x c.point-first.ensures.y in
    let middle = there c.point-middle.result e c.args.at c.point-middle.ensures.x c.point-middle.ensures.y in
    let last = there c.point-last.result e p.to c.point-last.ensures.x c.point-last.ensures.y in
    record {
      before_is = part e (record p { to = c.args.at }) c.point-first.result c.point-middle.result c.kept-before.result first middle c.kept-before.ensures;
      after_is = part e (record p { from = c.args.at }) c.point-middle.result c.point-last.result c.kept-after.result middle last c.kept-after.ensures;
    }

abbrev sides : Option Piece → Option Piece → Parts
sides x y = record { right = x; left = y }

both : (x y x' y' : Option Piece) → x ≡ x' → y ≡ y' → sides x y ≡ sides x' y'
both x y x' y' f g = ap (λ (o : Option Piece). sides o y) f ∙ ap (sides x') g

pub returns-then-starts_right : goal.returns-then-starts_right
returns-then-starts_right c =
    let a = parts (goal.at.returns-then-starts_right c).After-kept-after in
    both _ _ _ _ a.before_is a.after_is ∙ ap (cut_on c.args.edge c.args.piece.now c.args.at) (sym c.if-starts_right.true)

pub returns-else-starts_right : goal.returns-else-starts_right
returns-else-starts_right c =
    let a = parts (goal.at.returns-else-starts_right c).After-kept-after in
    both _ _ _ _ a.after_is a.before_is ∙ ap (cut_on c.args.edge c.args.piece.now c.args.at) (sym c.if-starts_right.false)
