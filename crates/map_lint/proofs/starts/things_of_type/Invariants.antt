use Rattle.std.proofs.Common.{◌≡◌, ◌≤◌, count_by, take}
use Rattle.map_lint.specs.Starts.{is_of_type}
use Rattle.map_lint.proofs.starts.things_of_type.Given as goal

abbrev pub invariant-loop-n : goal.invariant-loop-n
invariant-loop-n l = record {
  counted : l.count ≡ count_by (is_of_type l.kind) (take l.n l.map.tables.things);
  few : l.count ≤ l.n;
}
