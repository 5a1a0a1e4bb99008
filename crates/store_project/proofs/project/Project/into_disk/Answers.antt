use Rattle.store_project.proofs.Sound.{kept_view}
use Rattle.store_project.proofs.project.Project.into_disk.Goals as goal

pub returns-clause-kept : goal.returns-clause-kept
returns-clause-kept g c = kept_view g.D.Disk c.self.inside c.self.invariant.framed c.args.self c.self.view_is c.self.invariant.ready
