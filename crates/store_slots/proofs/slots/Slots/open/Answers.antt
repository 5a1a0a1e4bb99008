use Rattle.std.proofs.Common.{inl, inr}
use Rattle.store_slots.proofs.Finding.{not_bad}
use Rattle.store_slots.proofs.slots.Slots.open.Goals as goal

pub returns-in-Err-clause-damaged : goal.returns-in-Err-clause-damaged
returns-in-Err-clause-damaged g c place is file reads =
    let at_first = c.in_ok-end.ensures.still file reads in
    let at_second = c.in_ok-first.ensures.reads.still file at_first in
    let bad = c.in-Err.ensures.damaged place is in
    inr (not_bad c.args.a c.in_ok-first.first file (c.in_ok-first.ensures.shows file at_first), bad.0, inl (bad.1 file at_second))

pub returns-in-Err-choose-clause-damaged : goal.returns-in-Err-choose-clause-damaged
returns-in-Err-choose-clause-damaged g c place is file reads =
    let at_first = c.in_ok-end.ensures.still file reads in
    let at_second = c.in_ok-first.ensures.reads.still file at_first in
    let bad = c.in-Err-choose.ensures.damaged place is in
    let shows = c.in_ok-first.ensures.shows file at_first in
    inr (not_bad c.args.a c.in_ok-first.first file shows, bad.0, inr (bad.1 file shows (c.in-Ok.ensures.shows file at_second)))
