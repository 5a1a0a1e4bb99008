use Rattle.std.proofs.Common.{◌≡◌, ◌++◌, not, false, get_or, filter, map}
use Rattle.std.specs.List.{range_with_len}
use Rattle.map_checks.specs.Tallies.{unused_item}
use Rattle.map_checks.proofs.unused.list_unmarked.Given as goal

abbrev pub invariant-loop-n : goal.invariant-loop-n
invariant-loop-n l =
    l.found.items
    ≡ l.initial.found.items ++ map (unused_item l.kind) (filter (λ n. not (get_or l.used n false)) (range_with_len 0 l.n))
