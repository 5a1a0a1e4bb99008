use Rattle.store_project.proofs.Sound.{kept_view, no_moment}
use Rattle.store_project.proofs.project.Project.checkpoint.Goals as goal

pub returns-in_default-clause-any_moment : goal.returns-in_default-clause-any_moment
returns-in_default-clause-any_moment g c =
    no_moment g.D.Disk c.self.inside c.self.invariant.framed c.args.self.now c.self.view_is c.self.invariant.ready (λ file left. g.met.D.Disk.only_now c.args.self.now.disk file left)

pub returns-in_default-clause-kept : goal.returns-in_default-clause-kept
returns-in_default-clause-kept g c = kept_view g.D.Disk c.self.inside c.self.invariant.framed c.args.self.now c.self.view_is c.self.invariant.ready

pub returns-then-generation-clause-any_moment : goal.returns-then-generation-clause-any_moment
returns-then-generation-clause-any_moment g c =
    no_moment g.D.Disk c.self.inside c.self.invariant.framed c.args.self.now c.self.view_is c.self.invariant.ready (λ file left. g.met.D.Disk.only_now c.args.self.now.disk file left)

pub returns-then-generation-clause-kept : goal.returns-then-generation-clause-kept
returns-then-generation-clause-kept g c = kept_view g.D.Disk c.self.inside c.self.invariant.framed c.args.self.now c.self.view_is c.self.invariant.ready

pub returns-in-Err-OutOfMemory-clause-any_moment : goal.returns-in-Err-OutOfMemory-clause-any_moment
returns-in-Err-OutOfMemory-clause-any_moment g c =
    no_moment g.D.Disk c.self.inside c.self.invariant.framed c.args.self.now c.self.view_is c.self.invariant.ready (λ file left. g.met.D.Disk.only_now c.args.self.now.disk file left)

pub returns-in-Err-OutOfMemory-clause-kept : goal.returns-in-Err-OutOfMemory-clause-kept
returns-in-Err-OutOfMemory-clause-kept g c = kept_view g.D.Disk c.self.inside c.self.invariant.framed c.args.self.now c.self.view_is c.self.invariant.ready
