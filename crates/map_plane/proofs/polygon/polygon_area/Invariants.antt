use Rattle.std.proofs.Common.{◌≡◌, ◌*◌, ◌^◌, take, pos, neg_ℤ, ◌≤ℤ◌}
use Rattle.map_plane.specs.Polygon.{polygon_area}
use Rattle.map_plane.proofs.polygon.polygon_area.Given as goal

-- the area so far, which can't be great
abbrev pub invariant-loop-edge : goal.invariant-loop-edge
invariant-loop-edge l =
    (l.area ≡ polygon_area (take l.edge-index l.edges)) × (neg_ℤ (pos (2 ^ 48 * l.edge-index)) ≤ℤ l.area) × (l.area ≤ℤ pos (2 ^ 48 * l.edge-index))
