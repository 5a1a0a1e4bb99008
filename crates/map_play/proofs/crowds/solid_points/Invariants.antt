use Rattle.std.proofs.Common.{◌≡◌, filter, map}
use Rattle.std.specs.List.{range_with_len}
use Rattle.map_play.specs.Points.{is_solid_at, solid_point}
use Rattle.map_play.proofs.crowds.solid_points.Given as goal

-- the points of the solid things so far
abbrev pub invariant-loop-n : goal.invariant-loop-n
invariant-loop-n l = l.points.items ≡ map (solid_point l.map.tables) (filter (is_solid_at l.map.tables) (range_with_len 0 l.n))
