-- From what a disk or a reader tells to what a file leaves open.
use Rattle.std.proofs.Common.{◌≡◌, ◌⊎◌, ap, inl, inr, ℕ, List, Option, Result, Ok, Err, IfErr, IfOk, sym, subst}
use Rattle.std.proofs.KnownBytes.{Keeps-refl}
use Rattle.std.specs.Prelude.{MatchResult, false}
use Rattle.store_disk.specs.Moments.{LeavesOnly}
use Rattle.store_disk.specs.Stops.{Each}
use Rattle.store_disk.specs.declared.disk.Disk.{Ghosts}
use Rattle.map_tables.specs.Projects.{project_of}
use Rattle.store_project.specs.Opening.{IsRefusedRead, StandsOnlyFor}
use Rattle.store_project.specs.States.{State}
use Rattle.store_project.specs.declared.reading.Refused.{Refused}
use Rattle.store_project.specs.declared.error.ProjectError.{ProjectError}
use Rattle.store_project.specs.declared.error.ProjectError.TheVariants.{Refused as RefusedLine, Device, OutOfMemory, Reopen, GenerationsSpent, Damaged, Blank, NotAProject, NotEmpty, BadGeometry}
use Rattle.run_edit.specs.Recovery.{IsOnlyRead}
use Rattle.cli_sources.specs.Opened.{EndsUnopened, IsFaultCounted, IsOpenedFrom, NotOpened}
use Rattle.cli_sources.specs.Unread.{EndsUnread, IsRefusedFor, IsUnreadOf}
use Rattle.cli_refusals.specs.Refusals.{IsOfOpening}
use Rattle.cli_refusals.specs.declared.refusal.Refusal.{Refusal}
use Rattle.cli_refusals.specs.declared.refusal.Refusal.TheVariants.{Project}

-- why the bytes are refused that a read gives is why those are that it gave before
pub refused_before : (before after : List ℕ → Type 0) (e : ProjectError) → Each before after → IsRefusedRead after e → IsRefusedRead before e
refused_before before after Device same is = tt
refused_before before after OutOfMemory same is = tt
refused_before before after NotAProject same is = λ file reads. is file (same file reads)
refused_before before after BadGeometry same is = λ file reads. is file (same file reads)
refused_before before after Blank same is = λ file reads. is file (same file reads)
refused_before before after (Damaged place) same is = λ file reads. is file (same file reads)
refused_before before after NotEmpty same is = absurd is
refused_before before after Reopen same is = absurd is
refused_before before after GenerationsSpent same is = absurd is
refused_before before after (RefusedLine e) same is = absurd is

pub of_opening : (reads : List ℕ → Type 0) (e : ProjectError) → IsRefusedRead reads e → IsOfOpening e
of_opening reads Device is = tt
of_opening reads OutOfMemory is = tt
of_opening reads NotAProject is = tt
of_opening reads BadGeometry is = tt
of_opening reads Blank is = tt
of_opening reads (Damaged place) is = tt
of_opening reads NotEmpty is = absurd is
of_opening reads Reopen is = absurd is
of_opening reads GenerationsSpent is = absurd is
of_opening reads (RefusedLine e) is = absurd is

-- an opening reads what was read before, and a stop within it leaves what one left before
abbrev pub Rereads : {D : Type 0} → Ghosts D → D → Result (State D) (Refused D) → Type 0
Rereads facts before result =
    MatchResult result
    (λ p. Each (facts.reads p.disk) (facts.reads before) × Each (facts.reads before) (facts.reads p.disk))
    (λ r. Each (facts.reads r.disk) (facts.reads before) × Each (facts.reads before) (facts.reads r.disk))

abbrev pub LeavesSame : {D : Type 0} → Ghosts D → D → Result (State D) (Refused D) → Type 0
LeavesSame facts before result =
    MatchResult result
    (λ p. LeavesOnly facts before p.disk (facts.may_leave before))
    (λ r. LeavesOnly facts before r.disk (facts.may_leave before))

pub opened_from : {D : Type 0} (facts : Ghosts D) (before : D) (result : Result (State D) (Refused D))
    → IfOk result (λ p. (p.must_reopen ≡ false) × Each (facts.reads p.disk) (StandsOnlyFor p.cap (project_of p.maps) p.generation))
    → Rereads facts before result → LeavesSame facts before result → IfOk result (IsOpenedFrom facts before)
opened_from facts before (Ok p) opened reads moments =
    record {
      reopen = opened.0;
      stands = λ file is. opened.1 file (reads.1 file is);
      only_read = record { no_other = reads.0; still = reads.1; any_moment = moments };
    }
opened_from facts before (Err r) opened reads moments = tt

pub refused_from : {D : Type 0} (facts : Ghosts D) (before : D) (result : Result (State D) (Refused D))
    → IfErr result (λ r. IsRefusedRead (facts.reads r.disk) r.error) → Rereads facts before result → LeavesSame facts before result
    → IfErr result (λ r. IsFaultCounted facts before r.disk r.error)
    → IfErr result (λ r. IsRefusedRead (facts.reads before) r.error × IsOnlyRead facts before r.disk × IsFaultCounted facts before r.disk r.error)
refused_from facts before (Ok p) refused reads moments counted = tt
refused_from facts before (Err r) refused reads moments counted =
    (refused_before (facts.reads before) (facts.reads r.disk) r.error reads.1 refused, record { no_other = reads.0; still = reads.1; any_moment = moments }, counted)

-- what isn't opened has no status
pub no_status : {D : Type 0} (facts : Ghosts D) (before after : D) (how : Result ℕ Refusal) (P : ℕ → Type 0) → NotOpened facts before after how → IfOk how P
no_status facts before after how P (e, is, refused, counted) = subst (λ (h : Result ℕ Refusal). IfOk h P) (sym is) tt

-- a file couldn't be opened, or there was no memory to copy it
pub unopened_of : (refusal : Refusal) (w : Option (List ℕ)) → (refusal ≡ Project Device) ⊎ (refusal ≡ Project OutOfMemory) → EndsUnopened (Err refusal) w w
unopened_of refusal w (inl is) = (Device, ap Err is, tt, Keeps-refl w)
unopened_of refusal w (inr is) = (OutOfMemory, ap Err is, tt, Keeps-refl w)

-- a file tells no bytes, and so not how long it was
pub unread_of : (r s u w : Option (List ℕ)) (how : Result ℕ Refusal) → IsRefusedFor (IsUnreadOf r s) how u w → EndsUnread how u w
unread_of r s u w how (refusal, is, (e, es, ends, long), kept) = (refusal, is, (e, es, ends), kept)
