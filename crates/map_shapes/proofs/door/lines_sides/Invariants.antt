use Rattle.std.proofs.Common.{◌≡◌, ◌≤◌, take}
use Rattle.map_shapes.specs.Doors.{lines_sides}
use Rattle.map_shapes.proofs.door.lines_sides.Given as goal

-- the sides so far
abbrev pub invariant-loop-n : goal.invariant-loop-n
invariant-loop-n l = (l.sides ≡ lines_sides l.map.tables l.door (take l.n l.map.tables.lines)) × (l.sides ≤ l.n)
