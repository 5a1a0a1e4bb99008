-- Nothing refuses the thing, so the map stays well-formed with it.
use Rattle.map_tables.proofs.LineLemmas.{with_thing_at-keeps}
use Rattle.map_tables.proofs.map.Map.set_thing.Goals as goal

pub invariant_of-self : goal.invariant_of-self
invariant_of-self c = rw c.set.ensures.items (with_thing_at-keeps _ c.args.n c.args.thing c.self.invariant c.requires)
