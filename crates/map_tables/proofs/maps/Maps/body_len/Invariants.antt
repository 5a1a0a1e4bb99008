use Rattle.std.proofs.Common.{◌≡◌, ◌≤◌, ◌+◌, ◌*◌, take}
use Rattle.std.specs.Prelude.{sum_by}
use Rattle.map_tables.specs.Tables.{part_len}
use Rattle.map_tables.proofs.ProjectLemmas.{len_of_part}
use Rattle.map_tables.proofs.maps.Maps.body_len.Given as goal

-- the parts of the current map and of the others so far have this length
abbrev pub invariant-loop-other : goal.invariant-loop-other
invariant-loop-other l = record {
  length : l.len ≡ 2 + part_len l.self.tables + sum_by len_of_part (take l.other-index l.other-items);
  bound : l.len ≤ 2 + 2007000 * (l.other-index + 1);
}
