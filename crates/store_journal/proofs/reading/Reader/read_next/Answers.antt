use Rattle.std.proofs.Common.{rules, ◌≡◌, ◌+◌, ℕ, length, sym, subst, arith}
use Rattle.store_disk.specs.Stops.{Each}
use Rattle.store_journal.specs.Damage.{IsBadRecord, IsJournalDamagedAt}
use Rattle.store_journal.specs.Reading.{ReaderState, HasRead}
use Rattle.store_journal.proofs.ReadingLoop.{found_among, has_one_more, breaks_behind}
use Rattle.store_journal.proofs.reading.Reader.read_next.Goals as goal

pub returns-in-Err-clause-damaged : goal.returns-in-Err-clause-damaged
returns-in-Err-clause-damaged g c place is =
    let files = g.D.Disk.reads c.args.disk.now in
    let (payloads, read) = c.requires in
    let seen = subst (λ (r : ReaderState). HasRead r payloads files) (sym c.self.view_is) read in
    let room : length c.read_payload.new.into ≡ 261 = search rules in
    let bad = c.in-Err.ensures.damaged place is in
    subst (λ (r : ReaderState). Each files (IsJournalDamagedAt r.area place)) c.self.view_is
    (breaks_behind _ payloads files seen c.in-Some.len c.read_payload.new.into c.in-Some.is room c.in_ok-read_payload.ensures.payload place (omega (arith, bad.0))
    (λ file i. subst (λ (k : ℕ). IsBadRecord c.self.inside.area k file) (sym bad.0) (bad.1 file (c.read_payload.ensures.reads.still file i))))

pub returns-clause-next : goal.returns-clause-next
returns-clause-next g c is payloads read =
    let files = g.D.Disk.reads c.args.disk.now in
    let later = g.D.Disk.reads c.record_len_at.new.disk in
    let seen = subst (λ (r : ReaderState). HasRead r payloads files) (sym c.self.view_is) read in
    let room : length c.read_payload.new.into ≡ 261 = search rules in
    let e = c.in-Ok.ensures in
    has_one_more _ payloads files seen c.in-Some.len c.read_payload.new.into c.in-Some.is room c.in_ok-read_payload.ensures.payload
    (c.self.inside.area.base + c.self.inside.next + 5 + c.in-Some.len) later c.in-Ok.found (omega arith)
    (λ file i. c.read_payload.ensures.reads.no_other file (e.reads.no_other file i))
    (found_among _ c.self.inside.end (g.D.Disk.reads c.read_payload.new.disk) later c.in-Ok.found e.reads.no_other e.closed e.open e.told e.fits)
