-- The places of the vertices so far are taken.
use Rattle.std.proofs.Common.{◌≡◌, take}
use Rattle.map_tables.specs.Places.{AreMarked}
use Rattle.map_tables.proofs.map.places.Places.refill.Given as goal

abbrev pub invariant-loop-n : goal.invariant-loop-n
invariant-loop-n l = AreMarked l.self (take l.n l.vertices.items) × (l.self.room ≡ l.initial.self.room)
