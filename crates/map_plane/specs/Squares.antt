-- Squares with sides along the axes, each given by its middle and its radius: half the length of a side. A square is
-- open: what only touches it isn't in it.
use Rattle.std.specs.Prelude.{ℕ, Bool, ◌&&◌, ◌||◌, List, [], ◌∷◌, ℤ, pos, ◌+ℤ◌, ◌-ℤ◌, int_lt}
use Rattle.std.specs.List.{list_any}
use Rattle.lump_records.specs.declared.records.Vertex.{Vertex}
use Rattle.map_plane.specs.declared.places.PlacedLine.{PlacedLine}
use Rattle.map_plane.specs.Meeting.{side_value_at}

-- the span from a to b reaches into the open one of the radius r round c
unfoldable pub reaches_into : ℤ → ℤ → ℤ → ℕ → Bool
reaches_into a b c r = (int_lt a (c +ℤ pos r) || int_lt b (c +ℤ pos r))
    && (int_lt (c -ℤ pos r) a || int_lt (c -ℤ pos r) b)

-- the corners of the square of the radius r round a place
unfoldable pub square_corners : Vertex → ℕ → List Vertex
square_corners p r =
    (record { x = p.x -ℤ pos r; y = p.y -ℤ pos r })
    ∷ (record { x = p.x -ℤ pos r; y = p.y +ℤ pos r })
    ∷ (record { x = p.x +ℤ pos r; y = p.y +ℤ pos r })
    ∷ (record { x = p.x +ℤ pos r; y = p.y -ℤ pos r }) ∷ []

-- of these places some lie on the left of the line's straight line, and some on the right
unfoldable pub runs_between : PlacedLine → List Vertex → Bool
runs_between l ps = list_any (λ p. int_lt (side_value_at l p) (pos 0)) ps
    && list_any (λ p. int_lt (pos 0) (side_value_at l p)) ps

-- the line reaches into the square of the radius r round a place: its box does, and its straight line runs between the
-- corners
unfoldable pub cuts_square : Vertex → ℕ → PlacedLine → Bool
cuts_square p r l = reaches_into l.from.x l.to.x p.x r && reaches_into l.from.y l.to.y p.y r
    && runs_between l (square_corners p r)

-- two numbers are less than r apart
unfoldable pub is_within : ℕ → ℤ → ℤ → Bool
is_within r a b = int_lt a (b +ℤ pos r) && int_lt b (a +ℤ pos r)

-- the squares round two places overlap, the sum of whose radii is r
unfoldable pub squares_overlap : ℕ → Vertex → Vertex → Bool
squares_overlap r p q = is_within r p.x q.x && is_within r p.y q.y
