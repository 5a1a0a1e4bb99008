use Rattle.std.proofs.Common.{◌≡◌, ◌≤◌, take}
use Rattle.std.specs.Prelude.{fold}
use Rattle.map_picture.specs.Labels.{shown_with}
use Rattle.map_picture.proofs.labels.shown_count.Given as goal

abbrev pub invariant-loop-n : goal.invariant-loop-n
invariant-loop-n l = (l.count ≡ fold (shown_with l.view) 0 (take l.n l.map.tables.vertices)) × (l.count ≤ l.n)
