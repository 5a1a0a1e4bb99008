use Rattle.std.proofs.Common.{◌≡◌, [], take}
use Rattle.std.specs.Prelude.{fold}
use Rattle.map_picture.specs.Placing.{placed_with}
use Rattle.map_picture.proofs.placing.place_all.Given as goal

-- the numbers so far are placed
abbrev pub invariant-loop-label : goal.invariant-loop-label
invariant-loop-label l = l.placed.items ≡ fold (placed_with l.size l.room) [] (take l.label-index l.labels)
