use Rattle.std.proofs.Common.{◌≡◌, ◌≤◌, take}
use Rattle.std.specs.Prelude.{◌==◌, count_by}
use Rattle.map_shapes.proofs.door.right_uses.Given as goal

-- the uses so far
abbrev pub invariant-loop-n : goal.invariant-loop-n
invariant-loop-n l = (l.uses ≡ count_by (λ line. line.right == l.side) (take l.n l.map.tables.lines)) × (l.uses ≤ l.n)
