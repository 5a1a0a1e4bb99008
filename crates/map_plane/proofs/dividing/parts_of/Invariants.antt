use Rattle.std.proofs.Common.{◌≡◌, filter, take}
use Rattle.map_plane.specs.Crossed.{goes_left, goes_right}
use Rattle.map_plane.proofs.dividing.parts_of.Given as goal

-- the parts of the lines so far
abbrev pub invariant-loop-line : goal.invariant-loop-line
invariant-loop-line l = (l.right.items ≡ filter (goes_right l.divider) (take l.line-index l.lines))
    × (l.left.items ≡ filter (goes_left l.divider) (take l.line-index l.lines))
