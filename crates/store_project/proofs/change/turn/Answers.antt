use Rattle.std.proofs.Common.{refl}
use Rattle.std.proofs.lemmas.Result.{on_ok_weaker}
use Rattle.store_slots.specs.Handles.{closed_of, filled_of, body_in}
use Rattle.store_project.proofs.TurnMoments.{closing, filling, opening, opened, begun}
use Rattle.store_project.proofs.change.turn.Goals as goal

pub returns-in_err-closed-clause-any_moment : goal.returns-in_err-closed-clause-any_moment
returns-in_err-closed-clause-any_moment g c =
    closing g.D.Disk c.args.slots c.args.slots refl c.args.parts c.requires.order c.requires.live_is c.requires.other_is (body_in c.args.image.now)
    c.args.disk.now c.close_other.new.disk c.close_other.ensures.any_moment

pub returns-in_err-filled-clause-any_moment : goal.returns-in_err-filled-clause-any_moment
returns-in_err-filled-clause-any_moment g c =
    filling g.D.Disk c.args.slots (closed_of c.in_ok-closed.closed) c.in_ok-closed.ensures.slots c.args.parts c.requires.order c.requires.live_is c.requires.other_is (body_in c.args.image.now)
    c.args.disk.now c.close_other.new.disk c.in_ok-closed.ensures.closed c.fill.new.disk c.close_other.ensures.any_moment c.fill.ensures.any_moment

pub returns-clause-turned : goal.returns-clause-turned
returns-clause-turned g c = on_ok_weaker c.open_other.result
    (λ opens cap.
    opened g.D.Disk c.args.slots
    (closed_of c.in_ok-closed.closed) c.in_ok-closed.ensures.slots c.args.parts c.requires.order c.requires.live_is c.requires.other_is (body_in c.args.image.now)
    c.args.disk.now c.close_other.new.disk c.in_ok-closed.ensures.closed c.fill.new.disk
    (filled_of c.in_ok-filled.filled) c.in_ok-filled.ensures.slots c.in_ok-filled.ensures.filled c.open_other.new.disk opens cap)
    c.open_other.ensures.opened

pub returns-clause-begins : goal.returns-clause-begins
returns-clause-begins g c = on_ok_weaker c.open_other.result
    (λ opens. begun g.D.Disk c.args.slots (closed_of c.in_ok-closed.closed) c.in_ok-closed.ensures.slots c.args.parts c.requires.order c.requires.live_is c.requires.other_is (body_in c.args.image.now)
    c.args.disk.now c.close_other.new.disk c.in_ok-closed.ensures.closed c.fill.new.disk
    (filled_of c.in_ok-filled.filled) c.in_ok-filled.ensures.slots c.in_ok-filled.ensures.filled c.open_other.new.disk opens)
    c.open_other.ensures.opened

pub returns-clause-any_moment : goal.returns-clause-any_moment
returns-clause-any_moment g c =
    opening g.D.Disk c.args.slots (closed_of c.in_ok-closed.closed) c.in_ok-closed.ensures.slots c.args.parts c.requires.order c.requires.live_is c.requires.other_is (body_in c.args.image.now)
    c.args.disk.now c.close_other.new.disk c.in_ok-closed.ensures.closed c.fill.new.disk
    (filled_of c.in_ok-filled.filled) c.in_ok-filled.ensures.slots c.in_ok-filled.ensures.filled c.open_other.new.disk
    c.close_other.ensures.any_moment c.fill.ensures.any_moment c.open_other.ensures.any_moment
