-- The set has the keys that it had, in some order.
use Rattle.std.proofs.Common.{◌∙◌, sym}
use Rattle.map_tables.proofs.PlaceLemmas.{found_is}
use Rattle.map_tables.proofs.map.places.Places.reserve.Goals as goal

pub returns-clause-marked : goal.returns-clause-marked
returns-clause-marked c = λ vs marked.
    let old = rw (← c.self.view_is) at marked in
    record {
      taken = λ v. sym (found_is c.reserve.new.self.keys v) ∙ c.in_ok-reserve.ensures.keys.2 v ∙ found_is c.self.inside.taken.keys v ∙ old.taken v;
      count = c.in_ok-reserve.ensures.keys.1 ∙ old.count;
    }
