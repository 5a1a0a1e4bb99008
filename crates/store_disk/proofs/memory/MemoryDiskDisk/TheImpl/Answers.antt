use Rattle.std.proofs.Common.{length}
use Rattle.store_disk.proofs.Going.{failed_reads, leads_nowhere, same_images, same_kept, same_reads, same_torn, stays_reads, synced_durable, synced_images, synced_reads, synced_still, time_goes, time_stays, wrote_images, wrote_kept, wrote_leads, wrote_reads}
use Rattle.store_disk.proofs.Outcomes.{either_way, on_err, on_ok}
use Rattle.store_disk.specs.Medium.{Synced, Wrote}
use Rattle.store_disk.proofs.memory.MemoryDiskDisk.TheImpl.Goals as goal

pub write_at-tells : goal.write_at-tells
write_at-tells c =
    let old = c.args.self.now in
    let new = c.new.self.now in
    let at = c.args.at in
    let x = c.args.from.now in
    record {
      written = on_ok c.result (wrote_reads old new at x) c.ensures.done;
      leads = on_ok c.result (wrote_leads old new at x) c.ensures.done;
      failed = on_err c.result (λ goes. failed_reads old new goes at (length x)) c.ensures.nothing;
      leads_failed = on_err c.result (λ goes. leads_nowhere old new goes at (length x)) c.ensures.nothing;
      images = either_way c.result (λ goes. wrote_images old new at x goes old.shows.image) (λ goes. same_torn old new goes at (length x)) c.ensures.done c.ensures.nothing;
      kept = either_way c.result (wrote_kept old new at x) (same_kept old new) c.ensures.done c.ensures.nothing;
      time = either_way c.result (time_goes old new (Wrote at x)) (time_stays old new) c.ensures.done c.ensures.nothing;
      count = c.ensures.count;
    }

pub sync-tells : goal.sync-tells
sync-tells c =
    let old = c.args.self.now in
    let new = c.new.self.now in
    record {
      durable = on_ok c.result (synced_durable old new) c.ensures.done;
      reads = either_way c.result (synced_reads old new) (same_reads old new) c.ensures.done c.ensures.nothing;
      still = either_way c.result (synced_still old new) (stays_reads old new) c.ensures.done c.ensures.nothing;
      images = either_way c.result (λ goes. synced_images old new goes old.shows.image) (same_images old new) c.ensures.done c.ensures.nothing;
      time = either_way c.result (time_goes old new Synced) (time_stays old new) c.ensures.done c.ensures.nothing;
      count = c.ensures.count;
    }
