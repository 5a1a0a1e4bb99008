use Rattle.std.proofs.Common.{ℕ, length, subst, arith}
use Rattle.store_disk.specs.Files.{Torn}
use Rattle.store_disk.specs.Stops.{Counted, From}
use Rattle.store_disk.proofs.Bytes.{torn_itself}
use Rattle.store_disk.proofs.Moments.{started, goes_on}
use Rattle.store_disk.proofs.Outcomes.{on_err_any, on_ok}
use Rattle.store_disk.proofs.Parts.{written_failed}
use Rattle.store_disk.proofs.writing.write_through.Goals as goal

pub returns-in_err-write_at-clause-any_moment : goal.returns-in_err-write_at-clause-any_moment
returns-in_err-write_at-clause-any_moment g c =
    let old = c.args.disk.now in
    let P = From (g.D.Disk.may_leave old) (Torn c.args.at (length c.args.from.now)) in
    let at_start = started g.D.Disk old P (λ file left. (file, g.met.D.Disk.only_now old file left, torn_itself _ _ file)) in
    goes_on g.D.Disk old old c.write_at.new.self P _ at_start c.write_at.ensures.time (λ file now. c.write_at.ensures.images file now)

pub returns-clause-any_moment : goal.returns-clause-any_moment
returns-clause-any_moment g c =
    let old = c.args.disk.now in
    let P = From (g.D.Disk.may_leave old) (Torn c.args.at (length c.args.from.now)) in
    let at_start = started g.D.Disk old P (λ file left. (file, g.met.D.Disk.only_now old file left, torn_itself _ _ file)) in
    let written = goes_on g.D.Disk old old c.write_at.new.self P _ at_start c.write_at.ensures.time (λ file now. c.write_at.ensures.images file now) in
    goes_on g.D.Disk old c.write_at.new.self c.sync.new.self P _ written c.sync.ensures.time (λ file now. c.write_at.ensures.images file (c.sync.ensures.images file now))

pub returns-clause-done : goal.returns-clause-done
returns-clause-done g c = on_ok c.sync.result (λ durable file left.
    let was = c.in_ok-write_at.ensures.written file (c.sync.ensures.reads file (durable file left)) in
    (was.0, g.met.D.Disk.reads_an_image c.args.disk.now was.0 was.1, was.2)) c.sync.ensures.durable

pub returns-clause-written : goal.returns-clause-written
returns-clause-written g c = on_ok c.sync.result (λ durable file now. c.in_ok-write_at.ensures.written file (c.sync.ensures.reads file now)) c.sync.ensures.durable

pub returns-clause-leads : goal.returns-clause-leads
returns-clause-leads g c = on_ok c.sync.result (λ durable file was.
    let next = c.in_ok-write_at.ensures.leads file was in
    (next.0, c.sync.ensures.still next.0 next.1, next.2)) c.sync.ensures.durable

pub returns-clause-failed : goal.returns-clause-failed
returns-clause-failed g c = on_err_any c.sync.result (λ file now.
    let was = c.in_ok-write_at.ensures.written file (c.sync.ensures.reads file now) in
    (was.0, was.1, written_failed c.args.at _ c.args.from.now was.0 file (omega arith) was.2))

pub returns-clause-leads_failed : goal.returns-clause-leads_failed
returns-clause-leads_failed g c = on_err_any c.sync.result (λ file was.
    let next = c.in_ok-write_at.ensures.leads file was in
    (next.0, c.sync.ensures.still next.0 next.1, written_failed c.args.at _ c.args.from.now file next.0 (omega arith) next.2))

pub returns-clause-count : goal.returns-clause-count
returns-clause-count g c = subst (λ (k : ℕ). Counted k (g.D.Disk.failures c.sync.new.self) c.sync.result) c.in_ok-write_at.ensures.count.done c.sync.ensures.count
