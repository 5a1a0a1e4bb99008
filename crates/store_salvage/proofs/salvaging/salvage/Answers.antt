use Rattle.std.proofs.Common.{◌≡◌, ◌<◌, ◌≤◌, ℕ, length, IfNone, IfSome, true, ap, sym, subst}
use Rattle.map_tables.specs.Projects.{body_len, project_of}
use Rattle.store_project.specs.Places.{cap_of}
use Rattle.store_project.specs.declared.places.Parts.{Parts}
use Rattle.store_salvage.specs.Replays.{IsDamageOf, IsReplayed}
use Rattle.store_salvage.proofs.Finding.{maps_fit}
use Rattle.store_salvage.proofs.Telling.{body_refused, damaged_if, header_refused, refused_whole, salvaged, slots_refused, stands_if, whole_if}
use Rattle.store_salvage.proofs.salvaging.salvage.Goals as goal

pub returns-in-Err-clause-whole : goal.returns-in-Err-clause-whole
returns-in-Err-clause-whole c cap k m st =
    refused_whole c.args.file.now cap k m st c.in-Err.error (header_refused c.args.file.now c.in-Err.error c.in-Err.ensures.refused)

pub returns-in-Err-live_slot-clause-refused : goal.returns-in-Err-live_slot-clause-refused
returns-in-Err-live_slot-clause-refused c =
    slots_refused c.in-Ok.geometry c.places-places.result c.args.file.now
    (record { allowed = c.in-Ok.ensures.allowed; header = c.in-Ok.ensures.header; laid_out = c.places-places.ensures.laid_out })
    c.in-Err-live_slot.error c.in-Err-live_slot.ensures.refused

pub returns-in-Err-live_slot-clause-whole : goal.returns-in-Err-live_slot-clause-whole
returns-in-Err-live_slot-clause-whole c cap k m st =
    refused_whole c.args.file.now cap k m st c.in-Err-live_slot.error (returns-in-Err-live_slot-clause-refused c)

pub returns-in-Err-maps_of-clause-refused : goal.returns-in-Err-maps_of-clause-refused
returns-in-Err-maps_of-clause-refused c =
    let live = c.in-Ok-live_slot.live in
    body_refused c.in-Ok.geometry c.places-places.result c.args.file.now
    (record { allowed = c.in-Ok.ensures.allowed; header = c.in-Ok.ensures.header; laid_out = c.places-places.ensures.laid_out })
    live.0 live.1.generation live.1.body.now c.parts-parts.result.live.base c.in-Ok-live_slot.ensures.live (ap (λ (q : Parts). q.live.base) c.parts-parts.ensures)
    c.in-Err-maps_of.error c.in-Err-maps_of.ensures.refused

pub returns-in-Err-maps_of-clause-whole : goal.returns-in-Err-maps_of-clause-whole
returns-in-Err-maps_of-clause-whole c cap k m st =
    refused_whole c.args.file.now cap k m st c.in-Err-maps_of.error (returns-in-Err-maps_of-clause-refused c)

pub read_journal-requires : goal.read_journal-requires
read_journal-requires c =
    let live = c.in-Ok-live_slot.live in
    subst (λ (n : ℕ). body_len (project_of c.in-Ok-maps_of.maps) ≤ n) (sym c.cap.ensures)
    (maps_fit c.in-Ok.geometry c.places-places.result live.0 live.1.generation live.1.body.now c.args.file.now c.places-places.ensures.laid_out c.in-Ok-live_slot.ensures.live
    (project_of c.in-Ok-maps_of.maps) c.in-Ok-maps_of.ensures.maps)

pub returns-clause-salvaged : goal.returns-clause-salvaged
returns-clause-salvaged c =
    let live = c.in-Ok-live_slot.live in
    let g = c.in-Ok.geometry in
    let p = c.places-places.result in
    let base = project_of c.in-Ok-maps_of.maps in
    let maps = project_of c.read_journal.new.maps in
    let r = c.in-Ok-read_journal.read in
    let file = c.args.file.now in
    salvaged g p live.0 live.1.generation live.1.body.now base maps r file
    (record { allowed = c.in-Ok.ensures.allowed; header = c.in-Ok.ensures.header; laid_out = c.places-places.ensures.laid_out })
    c.in-Ok-live_slot.ensures.live c.in-Ok-maps_of.ensures.maps
    (subst (λ (q : Parts). IsReplayed (cap_of g) q.journal base maps r file) c.parts-parts.ensures
    (subst (λ (n : ℕ). IsReplayed n c.parts-parts.result.journal base maps r file) c.cap.ensures c.in-Ok-read_journal.ensures.replayed))

pub returns-clause-damaged : goal.returns-clause-damaged
returns-clause-damaged c =
    let live = c.in-Ok-live_slot.live in
    let g = c.in-Ok.geometry in
    let p = c.places-places.result in
    let base = project_of c.in-Ok-maps_of.maps in
    let maps = project_of c.read_journal.new.maps in
    let r = c.in-Ok-read_journal.read in
    let file = c.args.file.now in
    damaged_if g p live.0 live.1.generation live.1.body.now base maps r file
    (record { allowed = c.in-Ok.ensures.allowed; header = c.in-Ok.ensures.header; laid_out = c.places-places.ensures.laid_out })
    c.in-Ok-live_slot.ensures.live c.in-Ok-maps_of.ensures.maps
    (subst (λ (q : Parts). IsReplayed (cap_of g) q.journal base maps r file) c.parts-parts.ensures
    (subst (λ (n : ℕ). IsReplayed n c.parts-parts.result.journal base maps r file) c.cap.ensures c.in-Ok-read_journal.ensures.replayed))
    c.damage-damage.result
    (subst (λ (q : Parts). IfSome c.damage-damage.result (IsDamageOf r (length file) q.other_journal.base)) c.parts-parts.ensures c.damage-damage.ensures.place)

pub returns-clause-sound : goal.returns-clause-sound
returns-clause-sound c =
    let live = c.in-Ok-live_slot.live in
    let g = c.in-Ok.geometry in
    let p = c.places-places.result in
    let base = project_of c.in-Ok-maps_of.maps in
    let maps = project_of c.read_journal.new.maps in
    let r = c.in-Ok-read_journal.read in
    let file = c.args.file.now in
    stands_if g p live.0 live.1.generation live.1.body.now base maps r file
    (record { allowed = c.in-Ok.ensures.allowed; header = c.in-Ok.ensures.header; laid_out = c.places-places.ensures.laid_out })
    c.in-Ok-live_slot.ensures.live c.in-Ok-maps_of.ensures.maps
    (subst (λ (q : Parts). IsReplayed (cap_of g) q.journal base maps r file) c.parts-parts.ensures
    (subst (λ (n : ℕ). IsReplayed n c.parts-parts.result.journal base maps r file) c.cap.ensures c.in-Ok-read_journal.ensures.replayed))
    c.damage-damage.result
    (subst (λ (q : Parts). IfNone c.damage-damage.result ((r.is_closed ≡ true) × (q.other_journal.base < length file) × (r.behind ≡ 0))) c.parts-parts.ensures c.damage-damage.ensures.none)

pub returns-clause-whole : goal.returns-clause-whole
returns-clause-whole c cap k m st =
    let live = c.in-Ok-live_slot.live in
    let g = c.in-Ok.geometry in
    let p = c.places-places.result in
    let base = project_of c.in-Ok-maps_of.maps in
    let maps = project_of c.read_journal.new.maps in
    let r = c.in-Ok-read_journal.read in
    let file = c.args.file.now in
    whole_if g p live.0 live.1.generation live.1.body.now base maps r file
    (record { allowed = c.in-Ok.ensures.allowed; header = c.in-Ok.ensures.header; laid_out = c.places-places.ensures.laid_out })
    c.in-Ok-live_slot.ensures.live c.in-Ok-maps_of.ensures.maps
    (subst (λ (q : Parts). IsReplayed (cap_of g) q.journal base maps r file) c.parts-parts.ensures
    (subst (λ (n : ℕ). IsReplayed n c.parts-parts.result.journal base maps r file) c.cap.ensures c.in-Ok-read_journal.ensures.replayed))
    c.damage-damage.result
    (subst (λ (q : Parts). IfSome c.damage-damage.result (IsDamageOf r (length file) q.other_journal.base)) c.parts-parts.ensures c.damage-damage.ensures.place)
    (subst (λ (q : Parts). IfNone c.damage-damage.result ((r.is_closed ≡ true) × (q.other_journal.base < length file) × (r.behind ≡ 0))) c.parts-parts.ensures c.damage-damage.ensures.none)
    cap k m st
