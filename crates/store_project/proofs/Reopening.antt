-- What an `open` of a disk that sessions left gives, and what it may be refused for.
use Rattle.std.proofs.Common.{◌≡◌, ◌⊎◌, inl, inr, ◌≤◌, ℕ, List, [], refl, sym, subst}
use Rattle.store_disk.specs.Moments.{LeavesOnly}
use Rattle.store_disk.specs.Stops.{Each}
use Rattle.store_disk.specs.declared.disk.Disk.{Ghosts}
use Rattle.store_disk.proofs.Moments.{weaker}
use Rattle.map_tables.specs.Projects.{ProjectMaps, empty_project, project_of}
use Rattle.store_project.specs.Opening.{IsRefusedRead}
use Rattle.store_project.specs.Sessions.{Creates, HoldsEach, IsLeftBy, KeepEach, Opens, RefusesOpen, Session}
use Rattle.store_project.specs.Stands.{Stands}
use Rattle.store_project.specs.States.{State}
use Rattle.store_project.specs.declared.error.ProjectError.{ProjectError}
use Rattle.store_project.specs.declared.error.ProjectError.TheVariants.{Device, OutOfMemory, Reopen, GenerationsSpent, Refused, Damaged, Blank, NotAProject, NotEmpty, BadGeometry}
use Rattle.store_project.proofs.Excluding.{stands_bad, stands_blank, stands_damaged, stands_foreign}
use Rattle.store_project.proofs.Holding.{all_moments, opens_well}

-- bytes that stand for a map are refused by a fault or for lack of memory alone
fault_or_memory : (reads : List ℕ → Type 0) (file : List ℕ) → reads file → (cap : ℕ) (map : ProjectMaps) (g : ℕ) → Stands cap map g file
    → (e : ProjectError) → IsRefusedRead reads e → (e ≡ Device) ⊎ (e ≡ OutOfMemory)
fault_or_memory reads file there cap map g stands Device told = inl refl
fault_or_memory reads file there cap map g stands OutOfMemory told = inr refl
fault_or_memory reads file there cap map g stands NotAProject told = absurd (stands_foreign cap map g file stands (told file there))
fault_or_memory reads file there cap map g stands BadGeometry told = absurd (stands_bad cap map g file stands (told file there))
fault_or_memory reads file there cap map g stands Blank told = absurd (stands_blank cap map g file stands (told file there))
fault_or_memory reads file there cap map g stands (Damaged place) told = absurd (stands_damaged cap map g place file stands (told file there))
fault_or_memory reads file there cap map g stands (Refused e) told = absurd told
fault_or_memory reads file there cap map g stands Reopen told = absurd told
fault_or_memory reads file there cap map g stands GenerationsSpent told = absurd told
fault_or_memory reads file there cap map g stands NotEmpty told = absurd told

module _ {D : Type 0} (facts : Ghosts D)
    (only_now : (d : D) (file : List ℕ) → facts.left_since d (facts.moment d) file → facts.may_leave d file)
    (counts_now : (d : D) (t : ℕ) (file : List ℕ) → t ≤ facts.moment d → facts.may_leave d file → facts.left_since d t file)
    (reads_an_image : (d : D) (file : List ℕ) → facts.reads d file → facts.may_leave d file)
    (cap : ℕ) (sessions : List Session) (disk : D)
    (left : IsLeftBy facts cap sessions disk) where
  -- at each moment from the one in the last session on
  moments : LeavesOnly facts left.mid.disk left.last.disk (HoldsEach cap sessions)
  moments = subst (λ (ss : List Session). LeavesOnly facts left.mid.disk left.last.disk (HoldsEach cap ss)) (sym left.all)
      (all_moments facts only_now counts_now reads_an_image cap [] left.before (Creates facts cap)
      (λ f o. record { ready = o.reopen; kept = o.kept; cap_is = o.cap_is; held = o.empty }) left.session left.mid left.last left.passed)

  images_hold : Each (facts.may_leave disk) (HoldsEach cap sessions)
  images_hold file image = moments.each file (left.images file image)

  pub opened_so : (first : State D) → Opens facts disk first
      → (first.cap ≡ cap) × KeepEach cap empty_project sessions (project_of first.maps)
      × LeavesOnly facts disk first.disk (HoldsEach cap sessions)
  opened_so first o =
      let at = opens_well facts only_now counts_now reads_an_image
      cap sessions left.mid left.last disk moments left.images first o in
      (at.cap_is, at.held, weaker facts disk first.disk (facts.may_leave disk) (HoldsEach cap sessions) o.any_moment images_hold)

  -- what a stop leaves within a call that leaves no new image
  pub stopped_so : (after next : D) → LeavesOnly facts disk after (facts.may_leave disk)
      → Each (facts.may_leave next) (facts.left_since after (facts.moment disk)) → IsLeftBy facts cap sessions next
  stopped_so after next leaves images = record {
    before = left.before;
    session = left.session;
    mid = left.mid;
    last = left.last;
    all = left.all;
    passed = left.passed;
    images = λ file image. left.images file (leaves.each file (images file image));
  }

  pub refused_so : (after : D) (e : ProjectError) → RefusesOpen facts disk after e
      → ((e ≡ Device) ⊎ (e ≡ OutOfMemory)) × IsLeftBy facts cap sessions after
      × LeavesOnly facts disk after (HoldsEach cap sessions)
  refused_so after e o =
      let was : (file : List ℕ) → facts.may_leave after file → facts.may_leave disk file =
      λ file image. o.any_moment.each file (counts_now after (facts.moment disk) file o.any_moment.later image) in
      let file = o.told.0 in
      let held = images_hold file (was file (reads_an_image after file o.told.1)) in (
        fault_or_memory (facts.reads after) file o.told.1 cap held.0 held.2.0 held.2.1 e o.refused,
        stopped_so after after o.any_moment (λ file image. counts_now after (facts.moment disk) file o.any_moment.later image),
        weaker facts disk after (facts.may_leave disk) (HoldsEach cap sessions) o.any_moment images_hold,
      )
