-- The levels of the order's front have what becomes of them.
use Rattle.std.specs.Prelude.{map, string_bytes}
use Rattle.wad_rebuild.proofs.InTurn.{AreInTurn}
use Rattle.wad_rebuild.proofs.levels.rebuilt_by.Given as goal

abbrev pub invariant-loop-number : goal.invariant-loop-number
invariant-loop-number l = AreInTurn l.wad (map string_bytes l.names) l.levels l.number-items l.number-index l.rebuilt.items
