use Rattle.std.proofs.Common.{◌≡◌, ◌∷◌, take}
use Rattle.std.specs.Prelude.{flat_map}
use Rattle.map_tables.specs.Parts.{part}
use Rattle.map_tables.specs.Projects.{project_of}
use Rattle.map_tables.proofs.maps.Maps.encode_body.Given as goal

-- the version, the current number, and the parts so far
abbrev pub invariant-loop-n : goal.invariant-loop-n
invariant-loop-n l = l.bytes.items ≡ 2 ∷ (project_of l.self).current ∷ flat_map part (take l.n (project_of l.self).maps)
