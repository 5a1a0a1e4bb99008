use Rattle.std.proofs.Common.{◌≡◌, false, take}
use Rattle.std.specs.List.{list_any}
use Rattle.map_checks.specs.Findings.{is_start}
use Rattle.map_checks.proofs.start.has_player_start.Given as goal

abbrev pub invariant-loop-n : goal.invariant-loop-n
invariant-loop-n l = list_any is_start (take l.n l.map.tables.things) ≡ false
