-- The set lost the place, and no other.
use Rattle.std.proofs.Common.{◌≡◌, ◌∙◌, sym, refl, arith}
use Rattle.map_tables.proofs.PlaceLemmas.{one_if, found_is, taken_fewer}
use Rattle.map_tables.proofs.map.places.Places.remove.Goals as goal

pub returns-then-self-capacity-clause-marked : goal.returns-then-self-capacity-clause-marked
returns-then-self-capacity-clause-marked c =
    let there = found_is c.self.inside.taken.keys c.args.place ∙ (rw (← c.self.view_is) at c.requires.taken) in
    let one : one_if c.remove.result ≡ 1 = rw (c.remove.ensures.test, there) refl in
    let count = rw (← c.self.view_is) at c.requires.count in
    record {
      taken = λ v. taken_fewer c.self.inside.taken c.remove.new.self c.args.place c.remove.ensures.updates v ∙ sym (rw (← c.self.view_is) at c.requires.left v);
      count = omega (arith, one, c.remove.ensures.len, count);
    }
