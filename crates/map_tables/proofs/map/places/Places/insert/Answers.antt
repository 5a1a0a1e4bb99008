-- The place was free, so the set has one more place, and room for one less.
use Rattle.std.proofs.Common.{◌≡◌, ◌∙◌, ap, false, arith, refl, length, ◌<◌, ◌+◌}
use Rattle.std.specs.HashSet as bag
use Rattle.map_tables.proofs.PlaceLemmas.{one_if, same, found_is, taken_more}
use Rattle.map_tables.proofs.map.places.Places.insert.Goals as goal

pub invariant_of-self : goal.invariant_of-self
invariant_of-self c =
    let free : bag.contains same c.self.inside.taken c.args.place ≡ false = found_is c.self.inside.taken.keys c.args.place ∙ (rw (← c.self.view_is) at c.requires.free) in
    let one : one_if c.in-Ok.field-0 ≡ 1 = rw (c.in-Ok.ensures.added, free) refl in
    let room : length c.self.inside.taken.keys < c.self.inside.room = rw (← c.self.view_is) at c.requires.room in
    record {
      there = omega (arith, one, c.in-Ok.ensures.len, c.in-Ok.ensures.spare, c.self.invariant.there);
      within = omega (arith, one, c.in-Ok.ensures.len, room);
    }

pub returns-clause-taken : goal.returns-clause-taken
returns-clause-taken c = rw (← c.self.view_is) (taken_more c.self.inside.taken c.insert.new.self c.args.place c.in-Ok.ensures.updates)

pub returns-clause-count : goal.returns-clause-count
returns-clause-count c =
    let free : bag.contains same c.self.inside.taken c.args.place ≡ false = found_is c.self.inside.taken.keys c.args.place ∙ (rw (← c.self.view_is) at c.requires.free) in
    let one : one_if c.in-Ok.field-0 ≡ 1 = rw (c.in-Ok.ensures.added, free) refl in
    rw (← c.self.view_is) (c.in-Ok.ensures.len ∙ ap (λ n. length c.self.inside.taken.keys + n) one)
