use Rattle.std.proofs.Common.{◌≡◌, take}
use Rattle.std.specs.Prelude.{fold}
use Rattle.map_picture.specs.View.{box_of_vertices, grown_by}
use Rattle.map_picture.proofs.view.box_of.Given as goal

abbrev pub invariant-loop-n : goal.invariant-loop-n
invariant-loop-n l = l.bounds ≡ fold grown_by (box_of_vertices l.map.tables) (take l.n l.map.tables.things)
