use Rattle.std.proofs.Common.{◌≡◌, ◌∙◌, ◌<◌, ℕ, length, ap, subst}
use Rattle.map_tables.specs.Projects.{project_of}
use Rattle.store_disk.proofs.ReadingCalls.{both_runs}
use Rattle.store_journal.specs.Records.{IsJournal}
use Rattle.map_commands.specs.ProjectLines.{Leads}
use Rattle.store_slots.specs.Handles.{generation_of, slot_of}
use Rattle.store_project.specs.Opening.{RefusesLines}
use Rattle.store_project.specs.Places.{cap_of, which_parts}
use Rattle.store_project.specs.declared.places.Parts.{Parts}
use Rattle.store_project.proofs.Counts.{none_failed, passed_on, went_well}
use Rattle.store_project.proofs.Openings.{lines_later, of_lines, of_slots, slots_later}
use Rattle.store_project.proofs.opening.read_synced.Goals as goal

pub returns-in-Err-read_slots-clause-refused : goal.returns-in-Err-read_slots-clause-refused
returns-in-Err-read_slots-clause-refused g c =
    let reads = g.D.Disk.reads c.args.disk.now in
    let later = g.D.Disk.reads c.read_header.new.disk in
    let geometry = c.in-Ok.geometry in
    let places = c.places-places.result in
    of_slots reads geometry places (λ file read. record { allowed = c.in-Ok.ensures.allowed; header = c.in-Ok.ensures.header file read; laid_out = c.places-places.ensures.laid_out })
    c.in-Err-read_slots.error (slots_later reads geometry places later c.in-Ok.ensures.reads.still c.in-Err-read_slots.error c.in-Err-read_slots.ensures.refused)

pub returns-in-Err-read_lines-clause-refused : goal.returns-in-Err-read_lines-clause-refused
returns-in-Err-read_lines-clause-refused g c =
    let reads = g.D.Disk.reads c.args.disk.now in
    let later = g.D.Disk.reads c.read_slots.new.disk in
    let geometry = c.in-Ok.geometry in
    let places = c.places-places.result in
    let slots = c.in-Ok-read_slots.slots in
    let base = project_of c.read_slots.new.maps in
    let error = c.in-Err-read_lines.error in
    let parts : c.parts-parts.result ≡ which_parts places (slot_of slots) = c.parts-parts.ensures ∙ ap (which_parts places) c.slot.ensures in
    of_lines reads geometry places (λ file read. record { allowed = c.in-Ok.ensures.allowed; header = c.in-Ok.ensures.header file read; laid_out = c.places-places.ensures.laid_out })
    (slot_of slots) (generation_of slots) base c.in-Ok-read_slots.ensures.areas.2 (λ file read. c.in-Ok-read_slots.ensures.holds file (c.in-Ok.ensures.reads.still file read))
    error
    (lines_later reads (cap_of geometry) (which_parts places (slot_of slots)) base later
    (λ file read. c.in-Ok-read_slots.ensures.reads.still file (c.in-Ok.ensures.reads.still file read)) error
    (subst (λ (q : Parts). RefusesLines later (cap_of geometry) q base error) parts
    (subst (λ (n : ℕ). RefusesLines later n c.parts-parts.result base error) c.cap.ensures c.in-Err-read_lines.ensures.refused)))

pub returns-in-Ok-read_lines-clause-opened : goal.returns-in-Ok-read_lines-clause-opened
returns-in-Ok-read_lines-clause-opened g c file read =
    let places = c.places-places.result in
    let slots = c.in-Ok-read_slots.slots in
    let base = project_of c.read_slots.new.maps in
    let parts : c.parts-parts.result ≡ which_parts places (slot_of slots) = c.parts-parts.ensures ∙ ap (which_parts places) c.slot.ensures in
    let later = c.in-Ok.ensures.reads.still file read in
    let last = c.in-Ok-read_slots.ensures.reads.still file later in
    let holds = c.in-Ok-read_slots.ensures.holds file later in
    let all = c.in-Ok-read_lines.ensures.replayed in
    let sound = subst (λ (q : Parts). IsJournal q.journal all.lines file) parts (all.journal file last) in
    record {
      has = record { allowed = c.in-Ok.ensures.allowed; header = c.in-Ok.ensures.header file read; laid_out = c.places-places.ensures.laid_out };
      stands = record {
        base = base;
        bytes = holds.bytes;
        lines = all.lines;
        well_formed = holds.well_formed;
        body = holds.body;
        live = holds.live;
        journal = sound;
        other = subst (λ (q : Parts). q.other_journal.base < length file) parts (c.in-Ok-read_lines.ensures.other file last);
        leads = subst (λ (n : ℕ). Leads n base all.lines (project_of c.read_lines.new.maps)) c.cap.ensures all.replayed;
      };
      slots = c.in-Ok-read_slots.ensures.slots file later;
      journal = (all.lines, sound, all.len);
    }

pub returns-in-Ok-read_lines-clause-count : goal.returns-in-Ok-read_lines-clause-count
returns-in-Ok-read_lines-clause-count g c =
    none_failed _ _ _ _
    (went_well _ _ _ _ c.in-Ok-read_lines.ensures.count ∙ went_well _ _ _ _ c.in-Ok-read_slots.ensures.count
    ∙ went_well _ _ _ _ c.in-Ok.ensures.count)

pub returns-in-Err-read_lines-clause-count : goal.returns-in-Err-read_lines-clause-count
returns-in-Err-read_lines-clause-count g c =
    passed_on _ _ _ _ (went_well _ _ _ _ c.in-Ok-read_slots.ensures.count ∙ went_well _ _ _ _ c.in-Ok.ensures.count) _
    c.in-Err-read_lines.ensures.count

pub returns-in-Err-read_slots-clause-count : goal.returns-in-Err-read_slots-clause-count
returns-in-Err-read_slots-clause-count g c =
    passed_on _ _ _ _ (went_well _ _ _ _ c.in-Ok.ensures.count) _ c.in-Err-read_slots.ensures.count

pub returns-in-Ok-read_lines-clause-reads : goal.returns-in-Ok-read_lines-clause-reads
returns-in-Ok-read_lines-clause-reads g c =
    both_runs g.D.Disk g.met.D.Disk.only_now _ _ _ c.in-Ok.ensures.reads
    (both_runs g.D.Disk g.met.D.Disk.only_now _ _ _ c.in-Ok-read_slots.ensures.reads
    c.in-Ok-read_lines.ensures.reads)

pub returns-in-Err-read_lines-clause-reads : goal.returns-in-Err-read_lines-clause-reads
returns-in-Err-read_lines-clause-reads g c =
    both_runs g.D.Disk g.met.D.Disk.only_now _ _ _ c.in-Ok.ensures.reads
    (both_runs g.D.Disk g.met.D.Disk.only_now _ _ _ c.in-Ok-read_slots.ensures.reads
    c.in-Err-read_lines.ensures.reads)
