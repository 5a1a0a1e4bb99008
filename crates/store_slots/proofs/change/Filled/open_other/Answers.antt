use Rattle.store_slots.proofs.Gate.{open_moments, open_done}
use Rattle.store_slots.proofs.Gate.{turned_slots}
use Rattle.store_slots.proofs.change.Filled.open_other.Goals as goal

pub returns-in_err-write_through-clause-any_moment : goal.returns-in_err-write_through-clause-any_moment
returns-in_err-write_through-clause-any_moment g c =
    open_moments g.D.Disk c.args.self.slots c.args.disk.now c.write_through.new.disk c.other.result c.other.ensures
    (λ file left. (c.requires.ready file left).filled) c.write_through.ensures.any_moment

pub returns-clause-any_moment : goal.returns-clause-any_moment
returns-clause-any_moment g c =
    open_moments g.D.Disk c.args.self.slots c.args.disk.now c.write_through.new.disk c.other.result c.other.ensures
    (λ file left. (c.requires.ready file left).filled) c.write_through.ensures.any_moment

pub returns-clause-opened : goal.returns-clause-opened
returns-clause-opened g c =
    open_done g.D.Disk c.args.self.slots c.args.disk.now c.write_through.new.disk c.other.result c.other.ensures
    (λ file left. let ready = c.requires.ready file left in (ready.closed.live, ready.filled)) c.in_ok-write_through.ensures.done

pub returns-clause-ready : goal.returns-clause-ready
returns-clause-ready g c file left =
    let s = c.args.self.slots in
    let was = c.in_ok-write_through.ensures.done file left in
    turned_slots s c.turned.result c.other.result was.0 file c.other.ensures c.turned.ensures.live.0 c.turned.ensures.live.1 c.turned.ensures.generation c.turned.ensures.other (c.requires.ready was.0 was.1).closed.live (c.requires.ready was.0 was.1).filled was.2
