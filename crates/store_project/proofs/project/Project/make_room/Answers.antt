use Rattle.store_project.proofs.Sound.{still_moment}
use Rattle.store_project.proofs.project.Project.make_room.Goals as goal

pub returns-then-has_room-clause-any_moment : goal.returns-then-has_room-clause-any_moment
returns-then-has_room-clause-any_moment g c =
    still_moment g.D.Disk c.args.self.now c.has_room.ensures.kept (λ file left. g.met.D.Disk.only_now c.args.self.now.disk file left) c.requires.ready

pub returns-then-has_room-clause-kept : goal.returns-then-has_room-clause-kept
returns-then-has_room-clause-kept g c = c.has_room.ensures.kept
