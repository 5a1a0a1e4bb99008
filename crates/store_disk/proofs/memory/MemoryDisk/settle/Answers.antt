use Rattle.std.proofs.Common.{◌≡◌, ◌∙◌, ap}
use Rattle.store_disk.specs.Medium.{Synced, after_calls, settled, after_call}
use Rattle.store_disk.specs.FixedFile.{bytes_of}
use Rattle.store_disk.specs.Calls.{calls_in, ranges_in}
use Rattle.store_disk.proofs.Stopping.{after_calls-push, shows_synced}
use Rattle.store_disk.proofs.memory.MemoryDisk.settle.Goals as goal

pub invariant_of-self : goal.invariant_of-self
invariant_of-self c =
    let s = c.args.self.now in
    let first = settled (bytes_of s.first) in
    let now : after_calls first (calls_in c.push_sync.new.self) ≡ after_call (after_calls first (calls_in s.calls)) Synced =
    ap (after_calls first) c.push_sync.ensures.calls ∙ after_calls-push first (calls_in s.calls) Synced in
    let shows = shows_synced (after_calls first (calls_in s.calls)) (bytes_of s.file) (bytes_of s.synced) (ranges_in s.calls) s.shows in
    record {
      shows = rw (now, c.copy.ensures.bytes, c.push_sync.ensures.ranges) shows;
      same_room = c.copy.ensures.most ∙ s.same_room;
    }
