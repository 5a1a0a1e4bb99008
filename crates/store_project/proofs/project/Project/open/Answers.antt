use Rattle.std.proofs.Common.{refl, sym, ap, subst}
use Rattle.store_disk.specs.Stops.{Each}
use Rattle.store_disk.specs.declared.area.Area.{Area}
use Rattle.store_journal.specs.Records.{EndsAt}
use Rattle.store_journal.specs.State.{JournalState}
use Rattle.map_tables.specs.Projects.{project_of}
use Rattle.store_project.specs.Opening.{IsOpened}
use Rattle.store_project.proofs.Openings.{stands_opened}
use Rattle.store_project.proofs.Alone.{stands_alone}
use Rattle.store_project.proofs.project.Project.open.Goals as goal

pub invariant_of-result : goal.invariant_of-result
invariant_of-result g c =
    let read = c.in-Ok.ensures in
    let o = c.in-Ok.opened in
    let area = ap (λ (j : JournalState). j.area) read.journal in
    let now : Each (g.D.Disk.may_leave c.in-Ok.disk) (IsOpened o (project_of c.read_through.new.maps)) = λ file left. read.opened file (read.only file left) in
    record {
      framed = record {
        allowed = read.places.0;
        laid_out = read.places.1;
        first = read.areas.0;
        second = read.areas.1;
        which = read.areas.2;
        journal = area;
        fits = read.fits;
      };
      ready = λ go. record {
        journal = ap (λ (j : JournalState). j.must_reopen) read.journal;
        geometry = λ file left. (now file left).has;
        stands = λ file left. (now file left).stands;
        slots = λ file left. (now file left).slots;
        ends = λ file left. subst (λ (a : Area). EndsAt a o.journal.next file) (sym area) (now file left).journal;
      };
    }

pub returns-in-Ok-clause-kept : goal.returns-in-Ok-clause-kept
returns-in-Ok-clause-kept g c = λ go file left.
    stands_opened c.in-Ok.opened (project_of c.read_through.new.maps) file c.in-Ok.ensures.areas.2 (c.in-Ok.ensures.opened file (c.in-Ok.ensures.only file left))

pub returns-in-Ok-clause-opened : goal.returns-in-Ok-clause-opened
returns-in-Ok-clause-opened g c = (
  refl,
  λ file read. stands_alone c.in-Ok.opened (project_of c.read_through.new.maps) file c.in-Ok.ensures.areas.2 (c.in-Ok.ensures.opened file read),
)
