use Rattle.std.proofs.Common.{rules, ◌∙◌, sym}
use Rattle.map_commands.proofs.ProjectSteps.{added-step, not-accepted}
use Rattle.map_commands.proofs.project.adding.try_add.Goals as goal

pub returns-in-Some-Ok-clause-added : goal.returns-in-Some-Ok-clause-added
returns-in-Some-Ok-clause-added c =
    let room = rw c.in-Current.is at (sym c.is_full.ensures ∙ c.if-is_full.false) in
    let edit = rw c.in-Some-Ok.field-0-is at c.in-Some-Ok.ensures.edit in
    rw c.in-Current.is
    (added-step c.args.maps.now c.add_item.new.maps c.in-Current.edit c.args.cap c.in-Some-Ok.number c.requires.fits room c.in-Some-Ok.ensures.unnamed edit
    c.add_item.ensures.others).0

pub returns-in-Some-Ok-clause-fits : goal.returns-in-Some-Ok-clause-fits
returns-in-Some-Ok-clause-fits c =
    let room = rw c.in-Current.is at (sym c.is_full.ensures ∙ c.if-is_full.false) in
    let edit = rw c.in-Some-Ok.field-0-is at c.in-Some-Ok.ensures.edit in
    (added-step c.args.maps.now c.add_item.new.maps c.in-Current.edit c.args.cap c.in-Some-Ok.number c.requires.fits room c.in-Some-Ok.ensures.unnamed edit
    c.add_item.ensures.others).1

pub returns-in-Some-Err-clause-covered : goal.returns-in-Some-Err-clause-covered
returns-in-Some-Err-clause-covered c covered accepted =
    let other = c.in-Some-Err.ensures.promised (rw c.in-Current.is at covered) in
    let step = rw c.in-Current.is at accepted in
    absurd (not-accepted c.args.maps.now c.in-Current.edit c.args.cap c.add_item.new.maps.tables _ other (search rules) c.in-Some-Err.ensures.edit step)
