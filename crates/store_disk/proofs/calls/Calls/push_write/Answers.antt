use Rattle.std.proofs.Common.{◌≡◌, ◌<◌, ◌≤◌, ◌+◌, ◌*◌, ℕ, List, length, take, set, ◌∙◌, ap, arith, length-set}
use Rattle.store_disk.specs.Medium.{size_of}
use Rattle.store_disk.specs.Entries.{made_by}
use Rattle.store_disk.specs.Calls.{calls_in}
use Rattle.store_disk.specs.declared.entry.Entry.TheVariants.{Write}
use Rattle.store_disk.proofs.Overwriting.{length-put}
use Rattle.store_disk.proofs.Recording.{size_is, ranges_more, total_more, written_more}
use Rattle.store_disk.proofs.calls.Calls.push_write.Goals as goal

pub put-requires : goal.put-requires
put-requires c =
    let s = c.args.self.now in
    let size : size_of (calls_in s) ≡ 16 * s.count + s.used = size_is s.entries.items s.count s.written.items s.used s.used_is (omega arith) (omega arith) in
    omega arith

pub index_mut-requires : goal.index_mut-requires
index_mut-requires c =
    let s = c.args.self.now in
    let size : size_of (calls_in s) ≡ 16 * s.count + s.used = size_is s.entries.items s.count s.written.items s.used s.used_is (omega arith) (omega arith) in
    omega arith

pub invariant_of-self : goal.invariant_of-self
invariant_of-self c =
    let s = c.args.self.now in
    let x = c.args.from.now in
    let size : size_of (calls_in s) ≡ 16 * s.count + s.used = size_is s.entries.items s.count s.written.items s.used s.used_is (omega arith) (omega arith) in
    let e = Write c.args.at (length x) in
    let lt : s.count < length s.entries.items = omega arith in
    let same : length c.put.new.bytes.items ≡ length s.written.items = ap length c.put.ensures ∙ length-put s.used x s.written.items (omega arith) in
    record {
      used_is = omega (arith, total_more s.entries.items s.count s.written.items s.used s.used_is lt e);
      fits = omega arith;
      entries_fit = omega (arith, length-set s.entries.items s.count e);
      since_fits = omega arith;
    }

pub returns-clause-calls : goal.returns-clause-calls
returns-clause-calls c =
    let s = c.args.self.now in
    let x = c.args.from.now in
    let size : size_of (calls_in s) ≡ 16 * s.count + s.used = size_is s.entries.items s.count s.written.items s.used s.used_is (omega arith) (omega arith) in
    let fits : s.used + length x ≤ length s.written.items = omega arith in
    ap (λ (d : List ℕ). made_by (take (s.count + 1) (set s.entries.items s.count (Write c.args.at (length x)))) (take (s.used + length x) d)) c.put.ensures
    ∙ written_more s.entries.items s.count s.written.items s.used s.used_is (omega arith) c.args.at x fits

pub returns-clause-ranges : goal.returns-clause-ranges
returns-clause-ranges c =
    let s = c.args.self.now in
    let size : size_of (calls_in s) ≡ 16 * s.count + s.used = size_is s.entries.items s.count s.written.items s.used s.used_is (omega arith) (omega arith) in
    ranges_more s.entries.items s.count s.written.items s.used s.used_is (omega arith) s.since (Write c.args.at (length c.args.from.now)) s.since_fits
