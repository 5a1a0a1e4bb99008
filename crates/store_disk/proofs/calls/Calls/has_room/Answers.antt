use Rattle.std.proofs.Common.{◌≡◌, ◌+◌, ◌*◌, arith}
use Rattle.std.proofs.lemmas.Bool.Decides.{nat_tests}
use Rattle.store_disk.specs.Medium.{size_of}
use Rattle.store_disk.specs.Calls.{calls_in}
use Rattle.store_disk.proofs.Recording.{size_is}
use Rattle.store_disk.proofs.calls.Calls.has_room.Goals as goal

pub returns-then-left-ge16 : goal.returns-then-left-ge16
returns-then-left-ge16 c =
    let s = c.args.self.now in
    let size : size_of (calls_in s) ≡ 16 * s.count + s.used = size_is s.entries.items s.count s.written.items s.used s.used_is (omega arith) (omega arith) in
    grind (arith, nat_tests)

pub returns-else-left-ge16 : goal.returns-else-left-ge16
returns-else-left-ge16 c =
    let s = c.args.self.now in
    let size : size_of (calls_in s) ≡ 16 * s.count + s.used = size_is s.entries.items s.count s.written.items s.used s.used_is (omega arith) (omega arith) in
    grind (arith, nat_tests)
