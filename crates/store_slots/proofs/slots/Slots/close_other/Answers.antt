use Rattle.std.proofs.Common.{sym, ◌∙◌}
use Rattle.store_slots.proofs.Behind.{close_ready}
use Rattle.store_slots.proofs.Gate.{close_moments, close_done}
use Rattle.store_slots.proofs.slots.Slots.close_other.Goals as goal

pub returns-in_err-write_through-clause-any_moment : goal.returns-in_err-write_through-clause-any_moment
returns-in_err-write_through-clause-any_moment g c =
    close_moments g.D.Disk c.args.self c.args.disk.now c.write_through.new.disk c.other.result c.other.ensures
    (λ file left. (c.requires.slots file left).1.older (sym c.other_is_open.ensures ∙ c.if-other_is_open.true)) c.write_through.ensures.any_moment

pub returns-in_ok-write_through-clause-any_moment : goal.returns-in_ok-write_through-clause-any_moment
returns-in_ok-write_through-clause-any_moment g c =
    close_moments g.D.Disk c.args.self c.args.disk.now c.write_through.new.disk c.other.result c.other.ensures
    (λ file left. (c.requires.slots file left).1.older (sym c.other_is_open.ensures ∙ c.if-other_is_open.true)) c.write_through.ensures.any_moment

pub returns-in_ok-write_through-clause-closed : goal.returns-in_ok-write_through-clause-closed
returns-in_ok-write_through-clause-closed g c =
    close_done g.D.Disk c.args.self c.args.disk.now c.write_through.new.disk c.other.result c.other.ensures
    (λ file left. (c.requires.slots file left).1.older (sym c.other_is_open.ensures ∙ c.if-other_is_open.true)) c.in_ok-write_through.ensures.done

pub returns-in_ok-write_through-clause-ready : goal.returns-in_ok-write_through-clause-ready
returns-in_ok-write_through-clause-ready g c =
    close_ready c.args.self (g.D.Disk.may_leave c.args.disk.now) (g.D.Disk.may_leave c.write_through.new.disk) c.requires.slots (returns-in_ok-write_through-clause-closed g c)
