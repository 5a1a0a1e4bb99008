-- Nothing refuses the thing, so the map stays well-formed with it.
use Rattle.map_tables.proofs.LineLemmas.{with_thing-keeps}
use Rattle.std.proofs.Common.{refl}
use Rattle.map_tables.specs.MapFields.{tables_of}
use Rattle.map_tables.specs.Edits.{with_thing}
use Rattle.map_tables.proofs.FaultLemmas.{done}
use Rattle.map_tables.proofs.map.Map.add_thing.Goals as goal

pub invariant_of-self-2 : goal.invariant_of-self-2
invariant_of-self-2 c = rw c.in_ok-push.ensures.items (with_thing-keeps _ c.args.thing c.self.invariant c.requires (rw (← c.self.view_is) at c.in_ok-can_add_thing.ensures))

pub returns-clause-edit : goal.returns-clause-edit
returns-clause-edit c =
    let fine = rw (← c.self.view_is) at c.in_ok-can_add_thing.ensures in
    rw (← c.self.view_is) (done _ (with_thing (tables_of c.self.inside) c.args.thing) _ _ _ fine (rw c.in_ok-push.ensures.items refl) c.len-number.ensures)
