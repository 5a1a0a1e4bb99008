use Rattle.std.proofs.Common.{arith}
use Rattle.store_journal.proofs.Lengths.{length-take}
use Rattle.store_journal.proofs.journal.Journal.place.Goals as goal

pub len_of_first-requires-clause-fits : goal.len_of_first-requires-clause-fits
len_of_first-requires-clause-fits c =
    let behind = rw c.in-Some.is at c.self.invariant.behind in
    omega (arith, length-take c.in-Some.records c.args.n, behind, c.self.invariant.next)

pub overflow_add-result : goal.overflow_add-result
overflow_add-result c =
    let behind = rw c.in-Some.is at c.self.invariant.behind in
    omega (arith, length-take c.in-Some.records c.args.n, behind, c.self.invariant.next, c.len_of_first.ensures, c.self.inside.area.in_range)
