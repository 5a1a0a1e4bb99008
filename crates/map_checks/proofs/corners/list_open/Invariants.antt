use Rattle.std.proofs.Common.{◌≡◌, ◌++◌, map, filter}
use Rattle.map_checks.specs.Tallies.{is_uneven, corner_open}
use Rattle.map_checks.proofs.corners.list_open.Given as goal

abbrev pub invariant-loop-sector : goal.invariant-loop-sector
invariant-loop-sector l =
    l.found.items ++ map corner_open (filter is_uneven l.sector-iterator)
    ≡ l.initial.found.items ++ map corner_open (filter is_uneven l.degrees.entries)
