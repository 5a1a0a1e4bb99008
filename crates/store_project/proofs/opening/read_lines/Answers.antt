use Rattle.std.proofs.Common.{arith, inl, inr, ◌∙◌, refl, ap}
use Rattle.map_tables.specs.Projects.{project_of}
use Rattle.store_project.proofs.Counts.{apart, is_journals, journal_apart, other_refusal, part_failed, refused_well, went_well}
use Rattle.store_project.proofs.Gates.{missing, both, alone}
use Rattle.store_project.proofs.Openings.{of_replay, replayed_later}
use Rattle.store_project.proofs.opening.read_lines.Goals as goal

pub returns-in-Ok-clause-refused : goal.returns-in-Ok-clause-refused
returns-in-Ok-clause-refused g c file reads =
    let all = c.in-Ok.ensures.replayed in
    inl (missing c.args.parts file all.lines (all.journal file (c.in_ok-end.ensures.still file reads)) (omega (arith, c.if-end-other.true, c.in_ok-end.ensures.told file reads)))

pub returns-in-Ok-default-Some-clause-refused : goal.returns-in-Ok-default-Some-clause-refused
returns-in-Ok-default-Some-clause-refused g c file reads =
    let last = c.in-Ok-default-Some.field-0-1-is in
    let all = rw last at c.in-Ok.ensures.replayed in
    rw last (inr (
    of_replay (g.D.Disk.reads c.args.disk.now) c.args.cap c.args.parts (project_of c.args.maps.now) c.in-Ok.field-0.0.next c.in-Ok-default-Some.place
    (project_of c.replay.new.maps) (replayed_later (g.D.Disk.reads c.len.new.self) (g.D.Disk.reads c.args.disk.now) c.in_ok-end.ensures.still all)
    (λ f read. omega (arith, c.if-end-other.false, c.in_ok-end.ensures.told f read)) file reads
    ))

pub returns-in-Err-Damaged-clause-refused : goal.returns-in-Err-Damaged-clause-refused
returns-in-Err-Damaged-clause-refused g c file reads = inl (
    both c.args.parts file c.in-Err-Damaged.place c.min.result (c.in-Err-Damaged.ensures.damaged c.in-Err-Damaged.place c.in-Err-Damaged.field-0-is file (c.in_ok-end.ensures.still file reads))
    (omega (arith, c.if-end-other-2.true, c.in_ok-end.ensures.told file reads)) c.min.ensures
    )

pub returns-in-Err-Damaged-2-clause-refused : goal.returns-in-Err-Damaged-2-clause-refused
returns-in-Err-Damaged-2-clause-refused g c file reads = inl (
    alone c.args.parts file c.in-Err-Damaged.place (c.in-Err-Damaged.ensures.damaged c.in-Err-Damaged.place c.in-Err-Damaged.field-0-is file (c.in_ok-end.ensures.still file reads))
    (omega (arith, c.if-end-other-2.false, c.in_ok-end.ensures.told file reads))
    )

pub returns-in-Ok-clause-count : goal.returns-in-Ok-clause-count
returns-in-Ok-clause-count g c =
    other_refusal _ _ _ _ (apart _ refl) (went_well _ _ _ _ c.in-Ok.ensures.count ∙ c.in_ok-end.ensures.count.done)

pub returns-in-Err-Damaged-clause-count : goal.returns-in-Err-Damaged-clause-count
returns-in-Err-Damaged-clause-count g c =
    other_refusal _ _ _ _ (apart _ refl)
    (refused_well _ _ _ _ (journal_apart _ (ap is_journals c.in-Err-Damaged.field-0-is)) c.in-Err-Damaged.ensures.count ∙ c.in_ok-end.ensures.count.done)

pub returns-in-Err-Damaged-2-clause-count : goal.returns-in-Err-Damaged-2-clause-count
returns-in-Err-Damaged-2-clause-count g c =
    other_refusal _ _ _ _ (apart _ refl)
    (refused_well _ _ _ _ (journal_apart _ (ap is_journals c.in-Err-Damaged.field-0-is)) c.in-Err-Damaged.ensures.count ∙ c.in_ok-end.ensures.count.done)

pub returns-in-Err-OutOfMemory-clause-count : goal.returns-in-Err-OutOfMemory-clause-count
returns-in-Err-OutOfMemory-clause-count g c =
    other_refusal _ _ _ _ (apart _ refl)
    (refused_well _ _ _ _ (journal_apart _ (ap is_journals c.in-Err-OutOfMemory.field-0-is)) c.in-Err-OutOfMemory.ensures.count ∙ c.in_ok-end.ensures.count.done)

pub returns-in-Err-Device-clause-count : goal.returns-in-Err-Device-clause-count
returns-in-Err-Device-clause-count g c =
    part_failed _ _ _ _ c.in_ok-end.ensures.count.done _ _ c.in-Err-Device.field-0-is c.in-Err-Device.ensures.count
