-- The set lost one place and has another.
use Rattle.std.proofs.Common.{◌≡◌, ◌∙◌, sym, ap, refl, arith, ◌||◌}
use Rattle.map_tables.specs.Faults.{is_place}
use Rattle.map_tables.proofs.PlaceLemmas.{one_if, found_is, taken_fewer}
use Rattle.map_tables.proofs.map.places.Places.replace.Goals as goal

pub insert-requires-clause-free : goal.insert-requires-clause-free
insert-requires-clause-free c =
    taken_fewer c.self.inside.taken c.remove.new.self c.args.from c.remove.ensures.updates c.args.to ∙ (rw (← c.self.view_is) at c.requires.free)

pub insert-requires-clause-room : goal.insert-requires-clause-room
insert-requires-clause-room c =
    let there = found_is c.self.inside.taken.keys c.args.from ∙ (rw (← c.self.view_is) at c.requires.taken) in
    let one : one_if c.remove.result ≡ 1 = rw (c.remove.ensures.test, there) refl in
    omega (arith, one, c.remove.ensures.len, c.self.invariant.within)

pub returns-then-self-capacity-clause-marked : goal.returns-then-self-capacity-clause-marked
returns-then-self-capacity-clause-marked c =
    let there = found_is c.self.inside.taken.keys c.args.from ∙ (rw (← c.self.view_is) at c.requires.taken) in
    let one : one_if c.remove.result ≡ 1 = rw (c.remove.ensures.test, there) refl in
    let count = rw (← c.self.view_is) at c.requires.count in
    record {
      taken = λ v.
          c.insert.ensures.taken v
          ∙ ap (λ b. is_place v c.args.to || b) (taken_fewer c.self.inside.taken c.remove.new.self c.args.from c.remove.ensures.updates v)
          ∙ sym (rw (← c.self.view_is) at c.requires.left v);
      count = omega (arith, one, c.remove.ensures.len, c.insert.ensures.count, count);
    }
