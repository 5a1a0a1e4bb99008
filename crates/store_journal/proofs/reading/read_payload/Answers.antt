use Rattle.std.proofs.Common.{◌≡◌, ◌+◌, ℕ, take, subst, arith}
use Rattle.store_disk.specs.Files.{HasAt}
use Rattle.store_journal.proofs.ReadingLoop.{has_front, has_rest, on_ok}
use Rattle.store_journal.proofs.reading.read_payload.Goals as goal

pub returns-clause-payload : goal.returns-clause-payload
returns-clause-payload g c =
    on_ok c.read_front.result (λ told file is. has_front c.args.at c.args.len c.min-behind.result c.read_front.new.into file (told file is)) c.read_front.ensures.told

pub returns-clause-head : goal.returns-clause-head
returns-clause-head g c =
    on_ok c.read_front.result
    (λ told within file is.
    let five : c.min-behind.result ≡ 5 = omega (arith, within, c.min-behind.ensures) in
    has_rest c.args.at c.args.len 5 c.read_front.new.into file (omega (arith, c.requires.room, c.requires.short, c.read_front.ensures.len))
    (subst (λ (k : ℕ). HasAt c.args.at (take (c.args.len + k) c.read_front.new.into) file) five (told file is)))
    c.read_front.ensures.told
