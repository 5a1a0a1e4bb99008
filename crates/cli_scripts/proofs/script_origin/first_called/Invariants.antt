use Rattle.std.proofs.Common.{◌≡◌, ◌<◌, ℕ, false, get_or}
use Rattle.map_tables.specs.Projects.{project_of}
use Rattle.map_tables.specs.Tables.{Tables}
use Rattle.cli_print.specs.Called.{is_called}
use Rattle.cli_scripts.proofs.script_origin.first_called.Given as goal

-- no map so far is called so
abbrev pub invariant-loop-n : goal.invariant-loop-n
invariant-loop-n l = (k : ℕ) (d : Tables) → k < l.n → is_called l.name (get_or (project_of l.maps).maps k d) ≡ false
