use Rattle.std.proofs.Common.{◌≡◌, None, take}
use Rattle.std.specs.Prelude.{fold}
use Rattle.map_picture.specs.View.{grown}
use Rattle.map_picture.proofs.view.box_of_vertices.Given as goal

abbrev pub invariant-loop-n : goal.invariant-loop-n
invariant-loop-n l = l.bounds ≡ fold grown None (take l.n l.map.tables.vertices)
