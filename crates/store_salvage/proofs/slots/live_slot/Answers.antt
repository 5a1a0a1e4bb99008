use Rattle.std.proofs.lemmas.Result.{IfOk-weaker}
use Rattle.store_salvage.proofs.Finding.{second_bad}
use Rattle.store_salvage.proofs.slots.live_slot.Goals as goal

pub returns-in-Err-clause-refused : goal.returns-in-Err-clause-refused
returns-in-Err-clause-refused c =
    second_bad c.args.a c.args.b c.in_ok-first.first c.args.file.now c.in-Err.error c.in_ok-first.ensures.shows c.in-Err.ensures.bad.0 c.in-Err.ensures.bad.1

pub returns-clause-live : goal.returns-clause-live
returns-clause-live c =
    IfOk-weaker c.choose.result _ _ (λ r is. is c.args.a c.args.b c.args.file.now c.in_ok-first.ensures.shows c.in-Ok.ensures.shows) c.choose.ensures.live
