use Rattle.std.proofs.Common.{◌≡◌, ◌+◌, ◌++◌, drop, length}
use Rattle.std.specs.Prelude.{All}
use Rattle.map_commands.specs.Step.{InRange}
use Rattle.map_shapes.specs.Doors.{door_commands, lines_commands, lines_sides}
use Rattle.map_shapes.proofs.door.all_commands.Given as goal

-- the commands so far and those of the lines that are left are all, and so are the new sides
abbrev pub invariant-loop-n : goal.invariant-loop-n
invariant-loop-n l =
    (l.commands.items ++ lines_commands l.map.tables l.door l.next l.n (drop l.n l.map.tables.lines) ≡ door_commands l.map.tables l.door l.fn.sector)
    × (l.next + lines_sides l.map.tables l.door (drop l.n l.map.tables.lines) ≡ length l.map.tables.sides + lines_sides l.map.tables l.door l.map.tables.lines)
    × All InRange l.commands.items
