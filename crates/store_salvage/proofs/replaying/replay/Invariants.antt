use Rattle.std.proofs.Common.{◌≤◌, ◌<◌, ◌+◌, ◌-◌, ◌*◌}
use Rattle.map_tables.specs.Projects.{body_len, project_of}
use Rattle.store_salvage.proofs.Walking.{Walked}
use Rattle.store_salvage.proofs.replaying.replay.Given as goal

abbrev pub invariant-loop-line : goal.invariant-loop-line
invariant-loop-line l = record {
  walked : Walked l.cap l.area (project_of l.fn.maps) (project_of l.maps) l.kept l.behind l.kept_to l.next l.file;
  inside : l.next < l.end;
  small : l.area.base + 5 * (l.kept + l.behind) ≤ l.next;
  fits : body_len (project_of l.maps) ≤ l.cap;
}

abbrev pub decreases-loop-line : goal.decreases-loop-line
decreases-loop-line l = l.end - l.next
