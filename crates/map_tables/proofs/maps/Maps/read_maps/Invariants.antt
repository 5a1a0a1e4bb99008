use Rattle.std.proofs.Common.{◌≡◌, ◌≤◌, ◌-◌, ◌++◌, length, drop}
use Rattle.std.specs.Prelude.{flat_map}
use Rattle.map_tables.specs.Parts.{part}
use Rattle.map_tables.specs.Projects.{WellFormedProject, project_of}
use Rattle.map_tables.proofs.maps.Maps.read_maps.Given as goal

-- the parts of the maps so far, followed by the remaining bytes, are the bytes
abbrev pub invariant-loop-at : goal.invariant-loop-at
invariant-loop-at l = WellFormedProject (project_of l.self) × (l.at ≤ length l.bytes) × (flat_map part (project_of l.self).maps ++ drop l.at l.bytes ≡ l.bytes)

-- each map takes some of the bytes
abbrev pub decreases-loop-at : goal.decreases-loop-at
decreases-loop-at l = length l.bytes - l.at
