use Rattle.std.specs.Prelude.{◌≡◌, ◌==◌, ◌-◌, find}
use Rattle.std.specs.List.{range_with_len}
use Rattle.wad_levels.specs.Entries.{lump_entry, rank}
use Rattle.wad_levels.proofs.entries.lump_entry.Given as goal

-- no entry so far has the number
abbrev pub invariant-loop-k : goal.invariant-loop-k
invariant-loop-k l =
    lump_entry l.wad l.fn.level l.number
    ≡ find (λ k. rank l.wad k == l.number) (range_with_len l.k (l.end - l.k))
