use Rattle.std.proofs.Common.{[]}
use Rattle.store_project.specs.Sessions.{Creates}
use Rattle.store_project.proofs.Holding.{all_moments}
use Rattle.store_project.proofs.Reopening.{opened_so, refused_so, stopped_so}
use Rattle.store_project.proofs.sessions.hold_each_acknowledged.Goals as goal

pub returns-clause-any_moment : goal.returns-clause-any_moment
returns-clause-any_moment g c cap before s mid last turns =
    all_moments g.D.Disk g.met.D.Disk.only_now g.met.D.Disk.counts_now g.met.D.Disk.reads_an_image
    cap [] before (Creates g.D.Disk cap) (λ f o. record { ready = o.reopen; kept = o.kept; cap_is = o.cap_is; held = o.empty }) s mid last turns

pub returns-clause-opened : goal.returns-clause-opened
returns-clause-opened g c cap sessions disk first left opens =
    opened_so g.D.Disk g.met.D.Disk.only_now g.met.D.Disk.counts_now g.met.D.Disk.reads_an_image
    cap sessions disk left first opens

pub returns-clause-refused : goal.returns-clause-refused
returns-clause-refused g c cap sessions disk after error left refused =
    refused_so g.D.Disk g.met.D.Disk.only_now g.met.D.Disk.counts_now g.met.D.Disk.reads_an_image
    cap sessions disk left after error refused

pub returns-clause-stopped : goal.returns-clause-stopped
returns-clause-stopped g c cap sessions disk next first left opens images =
    stopped_so g.D.Disk g.met.D.Disk.only_now g.met.D.Disk.counts_now g.met.D.Disk.reads_an_image
    cap sessions disk left first.disk next opens.any_moment images

pub returns-clause-stopped_refused : goal.returns-clause-stopped_refused
returns-clause-stopped_refused g c cap sessions disk after next error left refused images =
    stopped_so g.D.Disk g.met.D.Disk.only_now g.met.D.Disk.counts_now g.met.D.Disk.reads_an_image
    cap sessions disk left after next refused.any_moment images
