use Rattle.std.proofs.Common.{◌≡◌, drop, length, map}
use Rattle.std.specs.Prelude.{nat_le, vec_items}
use Rattle.store_journal.specs.Records.{records_bytes}
use Rattle.store_project.proofs.project.group.fit.Given as goal

-- what is left has room for the other lines exactly where there was room for all
abbrev pub invariant-loop-line : goal.invariant-loop-line
invariant-loop-line l =
    nat_le (length (records_bytes (map vec_items (drop l.line-index l.lines)))) l.left
    ≡ nat_le (length (records_bytes (map vec_items l.lines))) l.fn.left
