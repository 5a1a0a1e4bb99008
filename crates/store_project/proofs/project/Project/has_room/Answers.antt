use Rattle.store_project.proofs.Sound.{kept_view}
use Rattle.store_project.proofs.project.Project.has_room.Goals as goal

pub returns-in-Some-clause-kept : goal.returns-in-Some-clause-kept
returns-in-Some-clause-kept g c = kept_view g.D.Disk c.self.inside c.self.invariant.framed c.args.self.now c.self.view_is c.self.invariant.ready

pub returns-in-None-clause-kept : goal.returns-in-None-clause-kept
returns-in-None-clause-kept g c = kept_view g.D.Disk c.self.inside c.self.invariant.framed c.args.self.now c.self.view_is c.self.invariant.ready
