-- How a disk counts its failures over several calls, of which all but the last went well.
use Rattle.std.proofs.Common.{◌≡◌, ℕ, Bool, true, false, ◌-◌, ◌<◌, ◌^◌, inl, inr, Result, Ok, Err, refl, sym, ◌∙◌, ap, subst, ⊎_elim, arith}
use Rattle.std.proofs.lemmas.Bool.{both_ways}
use Rattle.store_disk.specs.Stops.{CountsFaults}
use Rattle.store_journal.specs.declared.error.JournalError.{JournalError}
use Rattle.store_journal.specs.declared.error.JournalError.TheVariants as journal
use Rattle.store_project.specs.declared.error.ProjectError.{ProjectError}
use Rattle.store_project.specs.declared.error.ProjectError.TheVariants.{Device}

module _ {T E : Type 0} (device : E) (before now : ℕ) where
  -- no call failed
  pub none_failed : (x : T) → now ≡ before → CountsFaults {T = T} device before now (Ok x)
  none_failed x same = record { later = omega (arith, same); rose = λ e. absurd cc; no_other = inr same }

  -- nor did one where there is another refusal
  pub other_refusal : (e : E) → (e ≡ device → ⊥) → now ≡ before → CountsFaults {T = T} device before now (Err e)
  other_refusal e apart same = record { later = omega (arith, same); rose = λ is. absurd (apart cc); no_other = inr same }

  -- a part that went well
  pub went_well : (x : T) → CountsFaults {T = T} device before now (Ok x) → now ≡ before
  went_well x c = ⊎_elim (λ (is : ◌≡◌ {A = Result T E} (Ok x) (Err device)). absurd cc) (λ same. same) c.no_other

-- a part whose refusal is no fault of the device
pub refused_well : {U F : Type 0} (own e : F) (mid now : ℕ) → (e ≡ own → ⊥) → CountsFaults {T = U} own mid now (Err e) → now ≡ mid
refused_well {U = U} own e mid now apart c = ⊎_elim (λ (is : ◌≡◌ {A = Result U _} (Err e) (Err own)). absurd (apart cc)) (λ same. same) c.no_other

module _ {T U E F : Type 0} (device : E) (before mid now : ℕ) (same : mid ≡ before) where
  -- a part answers that one did
  pub part_failed : (own e : F) → e ≡ own → CountsFaults {T = U} own mid now (Err e) → CountsFaults {T = T} device before now (Err device)
  part_failed own e is c =
      let later = c.later in
      record {
        later = omega (arith, same, later);
        rose = λ x low. subst (λ n. n < now) same (c.rose (ap Err is) (subst (λ n. n < 2 ^ 64 - 1) (sym same) low));
        no_other = inl refl;
      }

-- the refusal of a part is passed on
pub passed_on : {T U E : Type 0} (device : E) (before mid now : ℕ) → mid ≡ before → (e : E) → CountsFaults {T = U} device mid now (Err e)
    → CountsFaults {T = T} device before now (Err e)
passed_on {U = U} {E = E} device before mid now same e c =
    let later = c.later in
    record {
      later = omega (arith, same, later);
      rose = λ x low. let is : e ≡ device = cc in subst (λ n. n < now) same (c.rose (ap Err is) (subst (λ n. n < 2 ^ 64 - 1) (sym same) low));
      no_other = ⊎_elim (λ (x : ◌≡◌ {A = Result U E} (Err e) (Err device)). let is : e ≡ device = cc in inl (ap Err is)) (λ s. inr (s ∙ same)) c.no_other;
    }

-- ---- The refusals that are none of the device

abbrev pub is_device : ProjectError → Bool
is_device Device = true
is_device _ = false

pub apart : (e : ProjectError) → is_device e ≡ false → e ≡ Device → ⊥
apart e other is = both_ways (is_device e) other (ap is_device is)

abbrev pub is_journals : JournalError → Bool
is_journals journal.Device = true
is_journals _ = false

pub journal_apart : (e : JournalError) → is_journals e ≡ false → e ≡ journal.Device → ⊥
journal_apart e other is = both_ways (is_journals e) other (ap is_journals is)
