-- No item names a thing, so the map stays well-formed without it.
use Rattle.map_tables.proofs.LineLemmas.{without_thing-keeps}
use Rattle.map_tables.proofs.map.Map.drop_thing.Goals as goal

pub invariant_of-self : goal.invariant_of-self
invariant_of-self c = rw c.remove.ensures.items (without_thing-keeps _ c.args.n c.self.invariant (rw (← c.self.view_is) at c.in_ok-can_drop_thing.ensures))
