use Rattle.cli_sources.proofs.Opened.{no_status}
use Rattle.cli_sources.proofs.opening.maps_on.Goals as goal

pub returns-in-Ok-clause-read : goal.returns-in-Ok-clause-read
returns-in-Ok-clause-read g c =
    let is = c.in-Ok.ensures in
    (is.read, record { no_other = is.reads.0; still = is.reads.1; any_moment = is.any_moment })

pub returns-in-Err-clause-refused : goal.returns-in-Err-clause-refused
returns-in-Err-clause-refused g c =
    let is = c.in-Err.ensures in
    rw c.not_opened.ensures.disk
    ((c.in-Err.refused.error, c.not_opened.ensures.how, is.refused, is.count), record { no_other = is.reads.0; still = is.reads.1; any_moment = is.any_moment })

pub returns-in-Err-clause-small : goal.returns-in-Err-clause-small
returns-in-Err-clause-small g c =
    no_status g.D.Disk c.args.disk c.in-Err.refused.disk c.not_opened.result.how _ (c.in-Err.refused.error, c.not_opened.ensures.how, c.in-Err.ensures.refused, c.in-Err.ensures.count)
