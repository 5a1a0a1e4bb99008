-- The facts of a disk, for a disk in memory whose record grows.
use Rattle.std.proofs.Common.{◌≡◌, inl, ℕ, List, [], ◌∷◌, length, refl, sym, ◌∙◌, ap, subst, arith}
use Rattle.std.proofs.lemmas.List.{append-nil, get_or_past}
use Rattle.store_disk.specs.Files.{Failed, Torn, Written}
use Rattle.store_disk.specs.Stops.{Follows, LeadsBy, Each, Elapses}
use Rattle.store_disk.specs.Medium.{Call, Wrote, Synced, Medium, after_call, after_calls, overwritten, IsImage, LeftSince}
use Rattle.store_disk.specs.Memory.{Goes, calls_of, first_medium, medium_of}
use Rattle.store_disk.specs.declared.memory.MemoryDisk.{MemoryDisk}
use Rattle.store_disk.proofs.Bytes.{torn_itself}
use Rattle.store_disk.proofs.Overwriting.{overwritten_is_written}
use Rattle.store_disk.proofs.Stopping.{after_calls-push, elapses_push, settled_only, still_image, torn_from}

-- what a read returns
abbrev pub Reads : Medium → List ℕ → Type 0
Reads m file = file ≡ m.file

module _ (old new : MemoryDisk) where
  abbrev Time : Type 0
  Time = Elapses (length (calls_of old)) (length (calls_of new)) (LeftSince (first_medium old) (calls_of old)) (LeftSince (first_medium new) (calls_of new)) (IsImage (medium_of new))

  -- one more call
  module _ (call : Call) (goes : Goes (call ∷ []) old new) where
    pub medium_now : medium_of new ≡ after_call (medium_of old) call
    medium_now =
        ap (λ (m : Medium). after_calls m (calls_of new)) goes.first ∙ ap (after_calls (first_medium old)) goes.calls_are ∙ after_calls-push (first_medium old) (calls_of old) call

    pub time_goes : Time
    time_goes =
        let pushed = elapses_push (first_medium old) (calls_of old) call in
        rw (goes.first, goes.calls_are) pushed

  -- no further call
  module _ (goes : Goes [] old new) where
    pub same_calls : calls_of new ≡ calls_of old
    same_calls = goes.calls_are ∙ append-nil (calls_of old)

    pub same_medium : medium_of new ≡ medium_of old
    same_medium = ap (λ (m : Medium). after_calls m (calls_of new)) goes.first ∙ ap (after_calls (first_medium old)) same_calls

    pub time_stays : Time
    time_stays =
        let stays : Elapses (length (calls_of old)) (length (calls_of old)) (LeftSince (first_medium old) (calls_of old)) (LeftSince (first_medium old) (calls_of old)) (IsImage (medium_of old)) =
        record { later = omega arith; nothing_else = λ t file le left. inl left; keeps = λ t file le left. left } in
        rw (goes.first, same_calls) stays

    pub failed_reads : (at n : ℕ) → Follows (Failed at n) (Reads (medium_of old)) (Reads (medium_of new))
    failed_reads at n file is =
        (file, is ∙ ap (λ (m : Medium). m.file) same_medium, record { torn = torn_itself at n file; gap = λ i past before. get_or_past file i 0 past })

    pub same_reads : Each (Reads (medium_of new)) (Reads (medium_of old))
    same_reads file is = is ∙ ap (λ (m : Medium). m.file) same_medium

    pub same_images : Each (IsImage (medium_of new)) (IsImage (medium_of old))
    same_images file is = subst (λ (m : Medium). IsImage m file) same_medium is

    pub stays_reads : Each (Reads (medium_of old)) (Reads (medium_of new))
    stays_reads file is = is ∙ sym (ap (λ (m : Medium). m.file) same_medium)

    pub leads_nowhere : (at n : ℕ) → LeadsBy (Failed at n) (Reads (medium_of old)) (Reads (medium_of new))
    leads_nowhere at n file is =
        (file, stays_reads file is, record { torn = torn_itself at n file; gap = λ i past before. get_or_past file i 0 past })

    pub same_kept : Each (IsImage (medium_of old)) (IsImage (medium_of new))
    same_kept file is = subst (λ (m : Medium). IsImage m file) (sym same_medium) is

    pub same_torn : (at n : ℕ) → Follows (Torn at n) (IsImage (medium_of old)) (IsImage (medium_of new))
    same_torn at n file is = (file, same_images file is, torn_itself at n file)

  module _ (at : ℕ) (x : List ℕ) (goes : Goes (Wrote at x ∷ []) old new) where
    pub wrote_reads : Follows (Written at x) (Reads (medium_of old)) (Reads (medium_of new))
    wrote_reads file is =
        let now : file ≡ overwritten at x (medium_of old).file = is ∙ ap (λ (m : Medium). m.file) (medium_now (Wrote at x) goes) in
        ((medium_of old).file, refl, subst (λ (f : List ℕ). Written at x (medium_of old).file f) (sym now) (overwritten_is_written at x (medium_of old).file))

    pub wrote_leads : LeadsBy (Written at x) (Reads (medium_of old)) (Reads (medium_of new))
    wrote_leads file is = (
      overwritten at x file,
      ap (overwritten at x) is ∙ sym (ap (λ (m : Medium). m.file) (medium_now (Wrote at x) goes)),
      overwritten_is_written at x file,
    )

    pub wrote_kept : Each (IsImage (medium_of old)) (IsImage (medium_of new))
    wrote_kept file is = subst (λ (m : Medium). IsImage m file) (sym (medium_now (Wrote at x) goes)) (still_image (medium_of old) at x file is)

    pub wrote_images : IsImage (medium_of old) (medium_of old).file → Follows (Torn at (length x)) (IsImage (medium_of old)) (IsImage (medium_of new))
    wrote_images image file is = torn_from (medium_of old) at x image file (subst (λ (m : Medium). IsImage m file) (medium_now (Wrote at x) goes) is)

  module _ (goes : Goes (Synced ∷ []) old new) where
    pub synced_reads : Each (Reads (medium_of new)) (Reads (medium_of old))
    synced_reads file is = is ∙ ap (λ (m : Medium). m.file) (medium_now Synced goes)

    pub synced_still : Each (Reads (medium_of old)) (Reads (medium_of new))
    synced_still file is = is ∙ sym (ap (λ (m : Medium). m.file) (medium_now Synced goes))

    -- after a sync the file is the only image
    only_image : (file : List ℕ) → IsImage (medium_of new) file → file ≡ (medium_of old).file
    only_image file is = settled_only (medium_of old).file file (subst (λ (m : Medium). IsImage m file) (medium_now Synced goes) is)

    pub synced_durable : Each (IsImage (medium_of new)) (Reads (medium_of new))
    synced_durable file is = only_image file is ∙ sym (ap (λ (m : Medium). m.file) (medium_now Synced goes))

    pub synced_images : IsImage (medium_of old) (medium_of old).file → Each (IsImage (medium_of new)) (IsImage (medium_of old))
    synced_images image file is = subst (λ (f : List ℕ). IsImage (medium_of old) f) (sym (only_image file is)) image
