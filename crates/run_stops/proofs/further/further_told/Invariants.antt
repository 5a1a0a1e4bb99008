use Rattle.std.proofs.Common.{[]}
use Rattle.std.specs.List.{remove}
use Rattle.map_tables.specs.Projects.{project_of}
use Rattle.run_stops.specs.ToldStops.{with_left_out}
use Rattle.run_stops.proofs.Rounds.{HasTold}
use Rattle.run_stops.proofs.further.further_told.Given as goal

-- so much was told of the lines behind the first stop
abbrev pub invariant-loop-round : goal.invariant-loop-round
invariant-loop-round l =
    HasTold (record { maps = project_of l.maps; cap = l.cap }) (remove l.lines l.stop.place) (remove l.files l.stop.place)
    (with_left_out [] l.lines l.stop.place) l.telling
