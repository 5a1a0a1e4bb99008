-- Each table keeps its items and their keys, so the map stays what it was.
use Rattle.std.proofs.Common.{ap}
use Rattle.map_tables.proofs.map.Map.reserve.Goals as goal

pub invariant_of-self : goal.invariant_of-self
invariant_of-self c = rw (c.in_err-reserve.ensures.items, c.in_err-reserve.ensures.keys) c.self.invariant

pub returns-in_err-reserve-clause-tables : goal.returns-in_err-reserve-clause-tables
returns-in_err-reserve-clause-tables c = rw (c.in_err-reserve.ensures.items, c.in_err-reserve.ensures.keys) (ap (λ v. v.tables) c.self.view_is)

pub invariant_of-self-in_err-reserve-2 : goal.invariant_of-self-in_err-reserve-2
invariant_of-self-in_err-reserve-2 c = rw (c.in_ok-reserve.ensures.items, c.in_ok-reserve.ensures.keys, c.in_err-reserve-2.ensures.items, c.in_err-reserve-2.ensures.keys) c.self.invariant

pub returns-in_err-reserve-2-clause-tables : goal.returns-in_err-reserve-2-clause-tables
returns-in_err-reserve-2-clause-tables c =
    rw (
      c.in_ok-reserve.ensures.items,
      c.in_ok-reserve.ensures.keys,
      c.in_err-reserve-2.ensures.items,
      c.in_err-reserve-2.ensures.keys,
    ) (ap (λ v. v.tables) c.self.view_is)

pub invariant_of-self-in_err-reserve-3 : goal.invariant_of-self-in_err-reserve-3
invariant_of-self-in_err-reserve-3 c =
    rw (
      c.in_ok-reserve.ensures.items,
      c.in_ok-reserve.ensures.keys,
      c.in_ok-reserve-2.ensures.items,
      c.in_ok-reserve-2.ensures.keys,
      c.in_err-reserve-3.ensures.items,
      c.in_err-reserve-3.ensures.keys,
    ) c.self.invariant

pub returns-in_err-reserve-3-clause-tables : goal.returns-in_err-reserve-3-clause-tables
returns-in_err-reserve-3-clause-tables c =
    rw (
      c.in_ok-reserve.ensures.items,
      c.in_ok-reserve.ensures.keys,
      c.in_ok-reserve-2.ensures.items,
      c.in_ok-reserve-2.ensures.keys,
      c.in_err-reserve-3.ensures.items,
      c.in_err-reserve-3.ensures.keys,
    )
    (ap (λ v. v.tables) c.self.view_is)

pub invariant_of-self-in_err-reserve-4 : goal.invariant_of-self-in_err-reserve-4
invariant_of-self-in_err-reserve-4 c =
    rw (
      c.in_ok-reserve.ensures.items,
      c.in_ok-reserve.ensures.keys,
      c.in_ok-reserve-2.ensures.items,
      c.in_ok-reserve-2.ensures.keys,
      c.in_ok-reserve-3.ensures.items,
      c.in_ok-reserve-3.ensures.keys,
      c.in_err-reserve-4.ensures.items,
    ) c.self.invariant

pub returns-in_err-reserve-4-clause-tables : goal.returns-in_err-reserve-4-clause-tables
returns-in_err-reserve-4-clause-tables c =
    rw (
      c.in_ok-reserve.ensures.items,
      c.in_ok-reserve.ensures.keys,
      c.in_ok-reserve-2.ensures.items,
      c.in_ok-reserve-2.ensures.keys,
      c.in_ok-reserve-3.ensures.items,
      c.in_ok-reserve-3.ensures.keys,
      c.in_err-reserve-4.ensures.items,
    ) (ap (λ v. v.tables) c.self.view_is)

pub invariant_of-self-in_err-reserve-5 : goal.invariant_of-self-in_err-reserve-5
invariant_of-self-in_err-reserve-5 c =
    rw (
      c.in_ok-reserve.ensures.items,
      c.in_ok-reserve.ensures.keys,
      c.in_ok-reserve-2.ensures.items,
      c.in_ok-reserve-2.ensures.keys,
      c.in_ok-reserve-3.ensures.items,
      c.in_ok-reserve-3.ensures.keys,
      c.in_ok-reserve-4.ensures.items,
      c.in_err-reserve-5.ensures.items,
    ) c.self.invariant

pub returns-in_err-reserve-5-clause-tables : goal.returns-in_err-reserve-5-clause-tables
returns-in_err-reserve-5-clause-tables c =
    rw (
      c.in_ok-reserve.ensures.items,
      c.in_ok-reserve.ensures.keys,
      c.in_ok-reserve-2.ensures.items,
      c.in_ok-reserve-2.ensures.keys,
      c.in_ok-reserve-3.ensures.items,
      c.in_ok-reserve-3.ensures.keys,
      c.in_ok-reserve-4.ensures.items,
      c.in_err-reserve-5.ensures.items,
    ) (ap (λ v. v.tables) c.self.view_is)

pub invariant_of-self-2 : goal.invariant_of-self-2
invariant_of-self-2 c =
    rw (
      c.in_ok-reserve.ensures.items,
      c.in_ok-reserve.ensures.keys,
      c.in_ok-reserve-2.ensures.items,
      c.in_ok-reserve-2.ensures.keys,
      c.in_ok-reserve-3.ensures.items,
      c.in_ok-reserve-3.ensures.keys,
      c.in_ok-reserve-4.ensures.items,
      c.in_ok-reserve-5.ensures.items,
    ) c.self.invariant

pub returns-clause-tables : goal.returns-clause-tables
returns-clause-tables c =
    rw (
      c.in_ok-reserve.ensures.items,
      c.in_ok-reserve.ensures.keys,
      c.in_ok-reserve-2.ensures.items,
      c.in_ok-reserve-2.ensures.keys,
      c.in_ok-reserve-3.ensures.items,
      c.in_ok-reserve-3.ensures.keys,
      c.in_ok-reserve-4.ensures.items,
      c.in_ok-reserve-5.ensures.items,
    ) (ap (λ v. v.tables) c.self.view_is)
