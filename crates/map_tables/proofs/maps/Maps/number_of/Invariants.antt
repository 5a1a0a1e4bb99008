use Rattle.std.proofs.Common.{◌≡◌, ℕ, ◌<◌, get_or, false}
use Rattle.map_tables.specs.Tables.{Tables}
use Rattle.map_tables.specs.Projects.{is_named, project_of}
use Rattle.map_tables.proofs.maps.Maps.number_of.Given as goal

-- no map so far has the name
abbrev pub invariant-loop-n : goal.invariant-loop-n
invariant-loop-n l = (k : ℕ) (d : Tables) → k < l.n → is_named l.name (get_or (project_of l.self).maps k d) ≡ false
