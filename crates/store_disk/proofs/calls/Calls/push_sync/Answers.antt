use Rattle.std.proofs.Common.{◌≡◌, ◌<◌, ◌+◌, ◌*◌, length, arith, length-set}
use Rattle.store_disk.specs.Medium.{size_of}
use Rattle.store_disk.specs.Calls.{calls_in}
use Rattle.store_disk.specs.declared.entry.Entry.TheVariants.{Sync}
use Rattle.store_disk.proofs.Recording.{size_is, synced_more, total_more}
use Rattle.store_disk.proofs.calls.Calls.push_sync.Goals as goal

pub index_mut-requires : goal.index_mut-requires
index_mut-requires c =
    let s = c.args.self.now in
    let size : size_of (calls_in s) ≡ 16 * s.count + s.used = size_is s.entries.items s.count s.written.items s.used s.used_is (omega arith) (omega arith) in
    omega arith

pub invariant_of-self : goal.invariant_of-self
invariant_of-self c =
    let s = c.args.self.now in
    let size : size_of (calls_in s) ≡ 16 * s.count + s.used = size_is s.entries.items s.count s.written.items s.used s.used_is (omega arith) (omega arith) in
    let lt : s.count < length s.entries.items = omega arith in
    record {
      used_is = omega (arith, total_more s.entries.items s.count s.written.items s.used s.used_is lt Sync);
      fits = omega arith;
      entries_fit = omega (arith, length-set s.entries.items s.count Sync);
      since_fits = omega arith;
    }

pub returns-clause-calls : goal.returns-clause-calls
returns-clause-calls c =
    let s = c.args.self.now in
    let size : size_of (calls_in s) ≡ 16 * s.count + s.used = size_is s.entries.items s.count s.written.items s.used s.used_is (omega arith) (omega arith) in
    synced_more s.entries.items s.count s.written.items s.used s.used_is (omega arith)
