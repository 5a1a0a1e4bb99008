-- What is read when a project is opened, and why it is refused.
use Rattle.std.proofs.Common.{◌≡◌, inl, inr, ◌<◌, ◌≤◌, ◌+◌, ℕ, Bool, true, false, List, [], ◌∷◌, ◌++◌, length, eqb, cond, Option, None, Some, Result, Ok, Err, IfErr, refl, sym, ◌∙◌, ap, subst, arith}
use Rattle.std.proofs.lemmas.Bool.{cases_Bool}
use Rattle.std.proofs.lemmas.List.{append_assoc}
use Rattle.store_disk.specs.Gates.{IsClosedAt}
use Rattle.store_disk.specs.Stops.{Each}
use Rattle.store_disk.specs.declared.area.Area.{Area}
use Rattle.store_journal.specs.Reading.{ReaderState, HasRead, HasFoundGate}
use Rattle.store_journal.specs.Records.{IsJournal, records_bytes}
use Rattle.store_slots.specs.Bodies.{IsLive, IsOpen, IsOlder}
use Rattle.store_slots.specs.Damage as damage
use Rattle.store_slots.specs.Refusals as checkpoint
use Rattle.store_slots.specs.Handles.{first_area, second_of, slot_of, generation_of, finds_open, live_of, HasSlots}
use Rattle.store_slots.specs.declared.slots.Slots.{Slots}
use Rattle.store_slots.specs.declared.error.CheckpointError.{CheckpointError}
use Rattle.store_slots.specs.declared.error.CheckpointError.TheVariants as slot
use Rattle.map_tables.specs.Projects.{ProjectMaps, body_len}
use Rattle.map_tables.specs.ProjectBody.{NoProjectHas, IsProjectOf, RefusesProject}
use Rattle.map_tables.specs.declared.error.MapError.{MapError}
use Rattle.map_tables.specs.declared.error.MapError.TheVariants as map
use Rattle.store_project.proofs.Bodies.{project_size}
use Rattle.store_project.specs.Places.{IsAllowed, AreLaidOut, cap_of, which_parts}
use Rattle.store_project.specs.Stands.{HasGeometry, Stands}
use Rattle.map_commands.specs.ProjectLines.{Leads, LeadsTo}
use Rattle.store_project.specs.Damage.{IsBadLine, IsBadPart}
use Rattle.store_project.specs.Opening.{AreReplayed, HoldsMap, IsOpened, IsOfBody, IsOfSlots, IsRefusedRead, IsJournalReplayed, RefusesLines, RefusesSlots}
use Rattle.store_project.specs.declared.geometry.Geometry.{Geometry}
use Rattle.store_project.specs.declared.places.Places.{Places}
use Rattle.store_project.specs.declared.places.Parts.{Parts}
use Rattle.store_project.specs.declared.opening.Opened.{Opened}
use Rattle.store_project.specs.declared.error.ProjectError.{ProjectError}
use Rattle.store_project.specs.declared.error.ProjectError.TheVariants.{Device, OutOfMemory, Reopen, GenerationsSpent, Refused, Damaged, Blank, NotAProject, NotEmpty, BadGeometry}
use Rattle.store_project.proofs.Placing.{TellsParts, tells_parts}

-- ---- the slots

-- the live slot is the parts' one
pub live_from : (s : Slots) (q : Parts) (x file : List ℕ) → TellsParts s q → HasSlots s x file → IsLive q.live q.other (generation_of s) x file
live_from s q x file tells has = record {
  is_open = subst (λ (a : Area). IsOpen a (generation_of s) x file) tells.live_is has.live;
  behind = elim (cases_Bool (finds_open s)) [
    | inl ajar ↦ inr (subst (λ (a : Area). IsOlder a (generation_of s) file) tells.other_is (has.older ajar))
    | inr shut ↦ inl (subst (λ (a : Area). IsClosedAt a.base file) tells.other_is (has.shut shut))
  ];
}

spent : (e : CheckpointError) → checkpoint.code_of e ≡ 33 → checkpoint.RefusesToOpenSlots e → ⊥
spent e is (inl a) = let n : 33 ≡ 30 = sym is ∙ ap checkpoint.code_of a in omega (arith, n)
spent e is (inr (inl a)) = let n : 33 ≡ 31 = sym is ∙ ap checkpoint.code_of a in omega (arith, n)
spent e is (inr (inr (inl a))) = let n : 33 ≡ 41 = sym is ∙ ap checkpoint.code_of a in omega (arith, n)
spent e is (inr (inr (inr (place, a)))) = let n : 33 ≡ 40 = sym is ∙ ap checkpoint.code_of a in omega (arith, n)

full : (e : CheckpointError) → checkpoint.code_of e ≡ 35 → checkpoint.RefusesToOpenSlots e → ⊥
full e is (inl a) = let n : 35 ≡ 30 = sym is ∙ ap checkpoint.code_of a in omega (arith, n)
full e is (inr (inl a)) = let n : 35 ≡ 31 = sym is ∙ ap checkpoint.code_of a in omega (arith, n)
full e is (inr (inr (inl a))) = let n : 35 ≡ 41 = sym is ∙ ap checkpoint.code_of a in omega (arith, n)
full e is (inr (inr (inr (place, a)))) = let n : 35 ≡ 40 = sym is ∙ ap checkpoint.code_of a in omega (arith, n)

module _ (reads : List ℕ → Type 0) (g : Geometry) (p : Places) where
  pub slots_refused : (e : CheckpointError) (r : ProjectError) → IsOfSlots e r → checkpoint.RefusesToOpenSlots e
      → ((place : ℕ) → e ≡ slot.Damaged place → Each reads (damage.AreSlotsDamagedAt p.a p.b place)) → (e ≡ slot.Blank → Each reads (damage.AreBlank p.a p.b)) → RefusesSlots reads g p r
  slots_refused slot.Device r is only damaged blank = subst (RefusesSlots reads g p) (sym is) tt
  slots_refused slot.OutOfMemory r is only damaged blank = subst (RefusesSlots reads g p) (sym is) tt
  slots_refused slot.Blank r is only damaged blank = subst (RefusesSlots reads g p) (sym is) (blank refl)
  slots_refused (slot.Damaged place) r is only damaged blank = subst (RefusesSlots reads g p) (sym is) (λ file read. inl (damaged place refl file read))
  slots_refused slot.GenerationsSpent r is only damaged blank = absurd (spent slot.GenerationsSpent refl only)
  slots_refused slot.SlotFull r is only damaged blank = absurd (full slot.SlotFull refl only)

  -- a body that no map has
  bad_body : (s : Slots) (x : List ℕ) → IsAllowed g.slot g.journal → AreLaidOut g p → first_area s ≡ p.a → second_of s ≡ p.b → slot_of s ≤ 1 → Each reads (HasSlots s x) → NoProjectHas x
      → (place : ℕ) → place ≡ (which_parts p (slot_of s)).live.base → Each reads (IsBadPart g p place)
  bad_body s x allowed laid first second which has none place there file read =
      inr (slot_of s, generation_of s, x, which, live_from s (which_parts p (slot_of s)) x file (tells_parts g p allowed laid s first second) (has file read), inl (none, there))

  pub body_refused : (s : Slots) (x : List ℕ) → IsAllowed g.slot g.journal → AreLaidOut g p → first_area s ≡ p.a → second_of s ≡ p.b → slot_of s ≤ 1 → Each reads (HasSlots s x)
      → (place : ℕ) → place ≡ (which_parts p (slot_of s)).live.base → (e : MapError) (r : ProjectError) → IsOfBody e place r → RefusesProject x e → RefusesSlots reads g p r
  body_refused s x allowed laid first second which has place there map.OutOfMemory r is refuses = subst (RefusesSlots reads g p) (sym is) tt
  body_refused s x allowed laid first second which has place there (map.Damaged at) r is refuses =
      subst (RefusesSlots reads g p) (sym is) (bad_body s x allowed laid first second which has refuses.1 place there)
  body_refused s x allowed laid first second which has place there map.NoVertex r is refuses = absurd refuses
  body_refused s x allowed laid first second which has place there map.NoSector r is refuses = absurd refuses
  body_refused s x allowed laid first second which has place there map.NoSide r is refuses = absurd refuses
  body_refused s x allowed laid first second which has place there map.NoLine r is refuses = absurd refuses
  body_refused s x allowed laid first second which has place there map.NoThing r is refuses = absurd refuses
  body_refused s x allowed laid first second which has place there map.InUse r is refuses = absurd refuses
  body_refused s x allowed laid first second which has place there map.SameEnds r is refuses = absurd refuses
  body_refused s x allowed laid first second which has place there map.PlaceTaken r is refuses = absurd refuses
  body_refused s x allowed laid first second which has place there map.TwoSidedWithoutLeft r is refuses = absurd refuses
  body_refused s x allowed laid first second which has place there map.TableFull r is refuses = absurd refuses
  body_refused s x allowed laid first second which has place there map.LineTooLong r is refuses = absurd refuses
  body_refused s x allowed laid first second which has place there map.TooManyMaps r is refuses = absurd refuses
  body_refused s x allowed laid first second which has place there map.MapNameTaken r is refuses = absurd refuses
  body_refused s x allowed laid first second which has place there map.NoSuchMap r is refuses = absurd refuses
  body_refused s x allowed laid first second which has place there map.CurrentMap r is refuses = absurd refuses

  -- the map of the live body
  pub holds : (s : Slots) (x : List ℕ) (m : ProjectMaps) → IsAllowed g.slot g.journal → AreLaidOut g p → first_area s ≡ p.a → second_of s ≡ p.b → Each reads (HasSlots s x) → IsProjectOf x m
      → Each reads (HoldsMap (which_parts p (slot_of s)) (generation_of s) m)
  holds s x m allowed laid first second has is file read = record {
    bytes = x;
    well_formed = is.well_formed;
    body = is.encoded;
    live = live_from s (which_parts p (slot_of s)) x file (tells_parts g p allowed laid s first second) (has file read);
  }

  pub of_slots : Each reads (HasGeometry g p) → (e : ProjectError) → RefusesSlots reads g p e → IsRefusedRead reads e
  of_slots has Device r = r
  of_slots has OutOfMemory r = r
  of_slots has Blank r = λ file read. (g, p, has file read, r file read)
  of_slots has (Damaged place) r = λ file read. (g, p, has file read, r file read)
  of_slots has Reopen r = absurd r
  of_slots has GenerationsSpent r = absurd r
  of_slots has (Refused e) r = absurd r
  of_slots has NotAProject r = absurd r
  of_slots has NotEmpty r = absurd r
  of_slots has BadGeometry r = absurd r

  -- from the reads of a later disk
  pub slots_later : (later : List ℕ → Type 0) → Each reads later → (e : ProjectError) → RefusesSlots later g p e → RefusesSlots reads g p e
  slots_later later still Device r = r
  slots_later later still OutOfMemory r = r
  slots_later later still Blank r = λ file read. r file (still file read)
  slots_later later still (Damaged place) r = λ file read. r file (still file read)
  slots_later later still Reopen r = absurd r
  slots_later later still GenerationsSpent r = absurd r
  slots_later later still (Refused e) r = absurd r
  slots_later later still NotAProject r = absurd r
  slots_later later still NotEmpty r = absurd r
  slots_later later still BadGeometry r = absurd r

  pub of_lines : Each reads (HasGeometry g p) → (n k : ℕ) (base : ProjectMaps) → n ≤ 1
      → Each reads (HoldsMap (which_parts p n) k base) → (e : ProjectError)
      → RefusesLines reads (cap_of g) (which_parts p n) base e → IsRefusedRead reads e
  of_lines has n k base which held Device r = r
  of_lines has n k base which held OutOfMemory r = r
  of_lines has n k base which held (Damaged place) r = λ file read.
      (g, p, has file read, inr (n, k, (held file read).bytes, which, (held file read).live, inr (base, (held file read).well_formed, (held file read).body, r file read)))
  of_lines has n k base which held Blank r = absurd r
  of_lines has n k base which held Reopen r = absurd r
  of_lines has n k base which held GenerationsSpent r = absurd r
  of_lines has n k base which held (Refused e) r = absurd r
  of_lines has n k base which held NotAProject r = absurd r
  of_lines has n k base which held NotEmpty r = absurd r
  of_lines has n k base which held BadGeometry r = absurd r

-- ---- the lines

module _ (reads : List ℕ → Type 0) (cap : ℕ) (q : Parts) (base : ProjectMaps) where
  pub lines_later : (later : List ℕ → Type 0) → Each reads later → (e : ProjectError) → RefusesLines later cap q base e → RefusesLines reads cap q base e
  lines_later later still Device r = r
  lines_later later still OutOfMemory r = r
  lines_later later still (Damaged place) r = λ file read. r file (still file read)
  lines_later later still Blank r = absurd r
  lines_later later still Reopen r = absurd r
  lines_later later still GenerationsSpent r = absurd r
  lines_later later still (Refused e) r = absurd r
  lines_later later still NotAProject r = absurd r
  lines_later later still NotEmpty r = absurd r
  lines_later later still BadGeometry r = absurd r

  -- a refused line, where no gate is at fault
  pub of_replay : (next place : ℕ) (new : ProjectMaps) → IsJournalReplayed reads cap q.journal base next (Some place) new → Each reads (λ file. q.other_journal.base < length file)
      → Each reads (IsBadLine cap q base place)
  of_replay next place new is other file read =
      let (front, line, back, split, m, leads, refused, there) = is.replayed in
      record {
        front = front;
        line = line;
        back = back;
        journal = subst (λ (ls : List (List ℕ)). IsJournal q.journal ls file) split (is.journal file read);
        other = other file read;
        map = m;
        leads = leads;
        refused = refused;
        there = there;
      }

-- the same of other files, all of which are among the first
pub replayed_later : {cap : ℕ} {area : Area} {base : ProjectMaps} {next : ℕ} {refused : Option ℕ} {new : ProjectMaps} (files others : List ℕ → Type 0) → Each others files
    → IsJournalReplayed files cap area base next refused new → IsJournalReplayed others cap area base next refused new
replayed_later files others among is = record { lines = is.lines; journal = λ file read. is.journal file (among file read); len = is.len; replayed = is.replayed }

-- ---- the lines, one by one

found_later : (place end : ℕ) (old new : List ℕ → Type 0) (found : Option ℕ) → Each new old → HasFoundGate place end old found → HasFoundGate place end new found
found_later place end old new None fewer is = λ file read. is file (fewer file read)
found_later place end old new (Some len) fewer is = (λ file read. is.0 file (fewer file read), λ file read. is.1 file (fewer file read), is.2, is.3)

-- what was read of files was read of each of fewer ones
pub read_later : (r : ReaderState) (lines : List (List ℕ)) (old new : List ℕ → Type 0) → Each new old → HasRead r lines old → HasRead r lines new
read_later r lines old new fewer is = record {
  len = is.len;
  inside = is.inside;
  within = is.within;
  ends = λ file read. is.ends file (fewer file read);
  short = is.short;
  has = λ file read. is.has file (fewer file read);
  found = found_later (r.area.base + r.next) r.end old new r.found fewer is.found;
}

module _ (cap at : ℕ) (base : ProjectMaps) (lines : List (List ℕ)) (line : List ℕ) where
  -- one more behind a refused one
  pub still_refused : (place : ℕ) (old new : ProjectMaps) → AreReplayed cap at base lines (Some place) old → AreReplayed cap at base (lines ++ line ∷ []) (Some place) new
  still_refused place old new (front, first, back, split, m, leads, refused, there) =
      (front, first, back ++ line ∷ [], ap (λ (ls : List (List ℕ)). ls ++ line ∷ []) split ∙ append_assoc front (first ∷ back) (line ∷ []), m, leads, refused, there)

  -- one that is refused
  pub now_refused : (gate : ℕ) (old new : ProjectMaps) → gate ≡ at + length (records_bytes lines) → ((next : ProjectMaps) → ¬ LeadsTo cap old line next)
      → Leads cap base lines old → AreReplayed cap at base (lines ++ line ∷ []) (Some gate) new
  now_refused gate old new there refused leads = (lines, line, [], refl, old, leads, refused, there)

-- ---- the map fits

pub map_fits : (g : Geometry) (p : Places) (s : Slots) (x : List ℕ) (m : ProjectMaps) → AreLaidOut g p → first_area s
    ≡ p.a → second_of s ≡ p.b → 13 + length x ≤ (live_of s).length → IsProjectOf x m → body_len m ≤ cap_of g
map_fits g p s x m laid first second fits is =
    let size : length x ≡ body_len m = project_size m x is.well_formed is.encoded in
    let len : (live_of s).length ≡ g.slot = at (eqb (slot_of s) 0) in
    omega (arith, size, len, fits)
  where
    at : (t : Bool) → (cond t s.a s.b).length ≡ g.slot
    at true = ap (λ (a : Area). a.length) first ∙ laid.a_length
    at false = ap (λ (a : Area). a.length) second ∙ laid.b_length

-- ---- the whole project

pub result_later : {T : Type 0} (old new : List ℕ → Type 0) → Each new old → (r : Result T ProjectError) → IfErr r (IsRefusedRead old) → IfErr r (IsRefusedRead new)
result_later {T = T} old new fewer (Ok t) h = h
result_later {T = T} old new fewer (Err Device) h = h
result_later {T = T} old new fewer (Err OutOfMemory) h = h
result_later {T = T} old new fewer (Err NotAProject) h = λ file read. h file (fewer file read)
result_later {T = T} old new fewer (Err BadGeometry) h = λ file read. h file (fewer file read)
result_later {T = T} old new fewer (Err Blank) h = λ file read. h file (fewer file read)
result_later {T = T} old new fewer (Err (Damaged place)) h = λ file read. h file (fewer file read)
result_later {T = T} old new fewer (Err Reopen) h = absurd h
result_later {T = T} old new fewer (Err GenerationsSpent) h = absurd h
result_later {T = T} old new fewer (Err (Refused e)) h = absurd h
result_later {T = T} old new fewer (Err NotEmpty) h = absurd h

pub stands_opened : (o : Opened) (maps : ProjectMaps) (file : List ℕ) → slot_of o.slots ≤ 1 → IsOpened o maps file → Stands (cap_of o.geometry) maps (generation_of o.slots) file
stands_opened o maps file which is = record { geometry = o.geometry; places = o.places; has = is.has; cap_is = refl; slot = slot_of o.slots; which = which; at = is.stands }
