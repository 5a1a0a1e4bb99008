use Rattle.run_script.proofs.DrawnCalls.{at_moments, calls_of}
use Rattle.run_script.proofs.stops.drawings_hold_acknowledged.Goals as goal

pub returns-clause-calls : goal.returns-clause-calls
returns-clause-calls g c first last verbose lines result u w drawn =
    let had = calls_of g.D.Disk verbose lines result first u last w drawn in
    (had.calls, had.made)

pub returns-clause-any_moment : goal.returns-clause-any_moment
returns-clause-any_moment g c cap first last verbose lines result u w created drawn =
    let had = calls_of g.D.Disk verbose lines result first u last w drawn in (
      had.calls,
      had.made,
      at_moments g.D.Disk cap first last.project had.calls (c.hold_each_acknowledged.ensures.any_moment cap) (c.hold_each_acknowledged.ensures.opened cap) created had.made,
    )
