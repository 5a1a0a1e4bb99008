use Rattle.std.proofs.Common.{◌≡◌, Bool, true, false, ◌&&◌, ◌∙◌, pos, refl, sym}
use Rattle.std.specs.Ordering.{int_eq}
use Rattle.map_plane.specs.Meeting.{is_on, side_value_at, spans_meet}
use Rattle.map_areas.proofs.ways.lies_on.Goals as goal

-- a place outside a line's box isn't on the line
outside_box : (s x y : Bool) → (x && y) ≡ false → false ≡ (s && x && y)
outside_box true x y h = sym h
outside_box false x y h = refl

pub returns-else-is_near : goal.returns-else-is_near
unfolding is_on
returns-else-is_near c =
    let l = c.args.line.now in
    let p = c.args.place in
    c.if-is_near.false
    ∙ outside_box (int_eq (side_value_at l p) (pos 0)) (spans_meet l.from.x l.to.x p.x p.x) (spans_meet l.from.y l.to.y p.y p.y)
    (sym c.is_near.ensures ∙ c.if-is_near.false)
