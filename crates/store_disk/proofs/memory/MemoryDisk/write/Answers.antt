use Rattle.std.proofs.Common.{◌≡◌, ◌∙◌, ap, sym}
use Rattle.store_disk.specs.Medium.{Wrote, after_calls, settled, after_call}
use Rattle.store_disk.specs.FixedFile.{bytes_of}
use Rattle.store_disk.specs.Calls.{calls_in, ranges_in}
use Rattle.store_disk.proofs.Stopping.{after_calls-push, shows_written}
use Rattle.store_disk.proofs.memory.MemoryDisk.write.Goals as goal

pub invariant_of-self : goal.invariant_of-self
invariant_of-self c =
    let s = c.args.self.now in
    let first = settled (bytes_of s.first) in
    let now : after_calls first (calls_in c.push_write.new.self) ≡ after_call (after_calls first (calls_in s.calls)) (Wrote c.args.at c.args.from.now) =
    ap (after_calls first) c.push_write.ensures.calls ∙ after_calls-push first (calls_in s.calls) (Wrote c.args.at c.args.from.now) in
    let shows = shows_written (after_calls first (calls_in s.calls)) c.args.at c.args.from.now (bytes_of s.file) (bytes_of s.synced) (ranges_in s.calls) s.shows in
    record {
      shows = rw (now, c.write.ensures.bytes, c.push_write.ensures.ranges) shows;
      same_room = s.same_room ∙ sym c.write.ensures.most;
    }
