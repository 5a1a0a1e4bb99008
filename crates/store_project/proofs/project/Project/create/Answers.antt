use Rattle.store_project.proofs.Sound.{is_kept}
use Rattle.store_project.proofs.Creating.{sound_created}
use Rattle.store_project.proofs.project.Project.create.Goals as goal

pub invariant_of-result : goal.invariant_of-result
invariant_of-result g c =
    let o = c.in-Ok.ensures in
    sound_created g.D.Disk _ o.places.0 o.places.1 o.handle.2 o.handle.3 o.handle.0 o.handle.1 o.journal c.new-maps.ensures.project o.made o.slots o.none

pub returns-in-Ok-clause-kept : goal.returns-in-Ok-clause-kept
returns-in-Ok-clause-kept g c =
    let sound = invariant_of-result g c in
    is_kept g.D.Disk _ sound.framed sound.ready
