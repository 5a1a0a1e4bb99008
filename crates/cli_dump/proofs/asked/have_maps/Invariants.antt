-- Each of the names so far is a map's.
use Rattle.std.specs.Prelude.{◌≡◌, drop, string_bytes}
use Rattle.std.specs.List.{list_all}
use Rattle.map_tables.specs.Projects.{project_of}
use Rattle.cli_dump.specs.Asked.{has_map_called}
use Rattle.cli_dump.proofs.asked.have_maps.Given as goal

abbrev pub invariant-loop-name : goal.invariant-loop-name
invariant-loop-name l =
    list_all (λ x. has_map_called (project_of l.maps) (string_bytes x)) l.names
    ≡ list_all (λ x. has_map_called (project_of l.maps) (string_bytes x)) (drop l.name-index l.names)
