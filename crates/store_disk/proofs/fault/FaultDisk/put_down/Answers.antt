use Rattle.std.proofs.Common.{inl, inr, ℕ, List, length, subst, arith}
use Rattle.store_disk.specs.Files.{Failed, Torn, Written}
use Rattle.store_disk.specs.Fault.{PutsDown}
use Rattle.store_disk.proofs.Parts.{failed_wider, follows_by, leads_by, torn_wider, written_failed}
use Rattle.store_disk.proofs.fault.FaultDisk.put_down.Goals as goal

pub returns-in_err-write_at-clause-failed : goal.returns-in_err-write_at-clause-failed
returns-in_err-write_at-clause-failed g c =
    follows_by (Failed c.args.at (length c.first_bytes.result.now)) (Failed c.args.at (length c.args.from.now))
    (λ old new. failed_wider c.args.at _ _ old new c.first_bytes.ensures.short) _ _ c.in_err-write_at.ensures.failed

pub returns-in_err-write_at-clause-leads : goal.returns-in_err-write_at-clause-leads
returns-in_err-write_at-clause-leads g c =
    leads_by (Failed c.args.at (length c.first_bytes.result.now)) (Failed c.args.at (length c.args.from.now))
    (λ old new. failed_wider c.args.at _ _ old new c.first_bytes.ensures.short) _ _ c.in_err-write_at.ensures.leads_failed

pub returns-in_err-write_at-clause-images : goal.returns-in_err-write_at-clause-images
returns-in_err-write_at-clause-images g c =
    follows_by (Torn c.args.at (length c.first_bytes.result.now)) (Torn c.args.at (length c.args.from.now))
    (λ old new. torn_wider c.args.at _ _ old new c.first_bytes.ensures.short) _ _ c.write_at.ensures.images

pub returns-in_err-write_at-clause-part : goal.returns-in_err-write_at-clause-part
returns-in_err-write_at-clause-part g c = λ some.
    subst (λ (bytes : List ℕ). PutsDown g.D.Disk c.args.at bytes c.args.self.now.inner c.write_at.new.self) c.first_bytes.ensures.first
    (record {
      down = inr (λ below. omega (arith, c.in_err-write_at.ensures.count.failed below), c.in_err-write_at.ensures.failed);
      images = c.write_at.ensures.images;
    })

pub returns-clause-failed : goal.returns-clause-failed
returns-clause-failed g c =
    follows_by (Written c.args.at c.first_bytes.result.now) (Failed c.args.at (length c.args.from.now))
    (λ old new. written_failed c.args.at _ _ old new c.first_bytes.ensures.short) _ _ c.in_ok-write_at.ensures.written

pub returns-clause-leads : goal.returns-clause-leads
returns-clause-leads g c =
    leads_by (Written c.args.at c.first_bytes.result.now) (Failed c.args.at (length c.args.from.now))
    (λ old new. written_failed c.args.at _ _ old new c.first_bytes.ensures.short) _ _ c.in_ok-write_at.ensures.leads

pub returns-clause-images : goal.returns-clause-images
returns-clause-images g c =
    follows_by (Torn c.args.at (length c.first_bytes.result.now)) (Torn c.args.at (length c.args.from.now))
    (λ old new. torn_wider c.args.at _ _ old new c.first_bytes.ensures.short) _ _ c.write_at.ensures.images

pub returns-clause-part : goal.returns-clause-part
returns-clause-part g c = λ some.
    subst (λ (bytes : List ℕ). PutsDown g.D.Disk c.args.at bytes c.args.self.now.inner c.write_at.new.self) c.first_bytes.ensures.first
    (record { down = inl c.in_ok-write_at.ensures.written; images = c.write_at.ensures.images })
