-- What a change of the live slot, and an append, make of a project that is sound.
use Rattle.std.proofs.Common.{◌≡◌, ◌⊎◌, inl, inr, ⊎_elim, ◌<◌, ◌≤◌, ◌+◌, ℕ, Bool, true, false, List, [], ◌∷◌, length, eqb, cond, Option, None, Some, Result, Ok, Err, nat_lt, ◌&&◌, refl, sym, ◌∙◌, ap, subst, arith}
use Rattle.std.specs.Option.{is_none}
use Rattle.std.proofs.lemmas.Bool.{true≢false}
use Rattle.std.proofs.lemmas.Bool.Decides.{nat_tests}
use Rattle.store_disk.specs.Moments.{LeavesOnly}
use Rattle.store_disk.specs.Stops.{From, Follows, Each}
use Rattle.store_disk.proofs.Moments.{weaker, started, and_then}
use Rattle.store_disk.specs.declared.area.Area.{Area}
use Rattle.store_journal.specs.Append.{Appends, MayAppend}
use Rattle.store_journal.specs.State as journal
use Rattle.store_slots.specs.Handles.{live_of, other_of, other_slot, first_area, second_of, slot_of, generation_of, HasSomeSlots}
use Rattle.store_slots.specs.declared.slots.Slots.{Slots}
use Rattle.map_tables.specs.Projects.{ProjectMaps, MapsView, WellFormedProject, body_len, project_of}
use Rattle.map_tables.specs.Outcomes.{least, unless}
use Rattle.map_tables.specs.ProjectBody.{project_body}
use Rattle.map_commands.specs.ProjectStep.{step, project_after, current_faults, project_faults, is_full, map_faults, project_number_of}
use Rattle.map_commands.specs.declared.project.command.ProjectCommand.{ProjectCommand}
use Rattle.map_commands.proofs.ProjectSteps.{none-of-both}
use Rattle.store_project.specs.Places.{IsInOrder, cap_of, which_parts}
use Rattle.store_project.specs.Stands.{HasGeometry, Stands, StandsAt, StandsFor, IsOutcome}
use Rattle.map_commands.specs.ProjectLines.{Leads, LeadsTo}
use Rattle.store_project.specs.States.{State, IsProjectKept}
use Rattle.store_project.specs.Turns.{turned, KeepsHeader, MayTurn, Turns}
use Rattle.store_project.specs.Fields.{project_state, parts_in, IsProjectFramed, IsReady, IsProjectSound}
use Rattle.store_project.specs.declared.places.Places.{Places}
use Rattle.store_project.specs.declared.places.Parts.{Parts}
use Rattle.store_project.specs.declared.project.Project.TheInside.{Inside}
use Rattle.store_project.proofs.Placing.{in_order, tells_parts, geometry_kept, other_length}
use Rattle.store_project.proofs.Bodies.{project_size}
use Rattle.store_project.proofs.Recording.{appended, leads_one, may_append, append_header, slots_kept}
use Rattle.store_disk.specs.Files.{KeepsOutside}
use Rattle.store_disk.specs.Areas as areas
use Rattle.store_disk.specs.declared.disk.Disk.{Ghosts}

-- the parts where the other slot is live
pub flipped : (p : Places) (n : ℕ) → which_parts p (other_slot n) ≡ turned (which_parts p n)
flipped p n = at (eqb n 0)
  where
    A : Parts
    A = record { live = p.a; other = p.b; journal = p.first; other_journal = p.second }

    B : Parts
    B = record { live = p.b; other = p.a; journal = p.second; other_journal = p.first }

    at : (t : Bool) → cond {A = Parts} (eqb (cond t 1 0) 0) A B ≡ turned (cond {A = Parts} t A B)
    at true = refl
    at false = refl

flip_which : (n : ℕ) → other_slot n ≤ 1
flip_which n = at (eqb n 0)
  where
    at : (t : Bool) → cond t 1 0 ≤ 1
    at true = omega arith
    at false = omega arith

pub some_none : (k : ℕ) → Some k ≡ None → ⊥
some_none k is = true≢false (ap (λ (o : Option ℕ). is_there o) is)
  where
    is_there : Option ℕ → Bool
    is_there None = false
    is_there (Some n) = true

-- an accepted step's maps fit
head_none : (k : ℕ) (b : Bool) (gs : List (ℕ × Bool)) → least ((k, b) ∷ gs) ≡ None → (b ≡ false) × (least gs ≡ None)
head_none k true gs is = absurd (some_none k is)
head_none k false gs is = (refl, is)

not_long : (o : Option ℕ) (long : Bool) → o ≡ None → (is_none o && long) ≡ false → long ≡ false
not_long o long none is = (λ i. is_none (sym none i) && long) ∙ is

none_of : (o : Option ℕ) (m : ProjectMaps) (n : ℕ) (x : ProjectMaps × ℕ) → unless o m n ≡ Ok x → (o ≡ None) × (m ≡ x.0)
none_of None m n x is = (refl, ap (λ (r : Result (ProjectMaps × ℕ) ℕ). map_in m r) is)
  where
    map_in : ProjectMaps → Result (ProjectMaps × ℕ) ℕ → ProjectMaps
    map_in d (Ok y) = y.0
    map_in d (Err e) = d
none_of (Some code) m n x is = absurd (true≢false (sym (ap is_good is)))
  where
    is_good : Result (ProjectMaps × ℕ) ℕ → Bool
    is_good (Ok y) = true
    is_good (Err e) = false

pub step_fits : (m : ProjectMaps) (c : ProjectCommand) (cap : ℕ) (new : ProjectMaps) (n : ℕ) → step m c cap ≡ Ok (new, n) → body_len new ≤ cap
step_fits m c cap new n is =
    let none = none_of (least (project_faults m c cap)) (project_after m c) (project_number_of m c) (new, n) is in
    let all = none-of-both (current_faults m c) ((14, is_full m c cap) ∷ map_faults m c) none.0 in
    let last = head_none 14 (is_full m c cap) (map_faults m c) all.1 in
    let short : nat_lt cap (body_len (project_after m c)) ≡ false = not_long (least (map_faults m c)) (nat_lt cap (body_len (project_after m c))) last.1 last.0 in
    let le : body_len (project_after m c) ≤ cap = grind (arith, nat_tests, short) in
    subst (λ (t : ProjectMaps). body_len t ≤ cap) none.1 le

module _ {D : Type 0} (facts : Ghosts D) (p : Inside D) (framed : IsProjectFramed p) where
  abbrev cap : ℕ
  cap = cap_of p.geometry

  abbrev q : Parts
  q = parts_in p

  abbrev g : ℕ
  g = generation_of p.slots

  pub order : IsInOrder q
  order = in_order p.geometry p.places framed.allowed framed.laid_out (slot_of p.slots)

  pub live_is : live_of p.slots ≡ q.live
  live_is = (tells_parts p.geometry p.places framed.allowed framed.laid_out p.slots framed.first framed.second).live_is

  pub other_is : other_of p.slots ≡ q.other
  other_is = (tells_parts p.geometry p.places framed.allowed framed.laid_out p.slots framed.first framed.second).other_is

  -- a file that stands at the parts stands
  stands_here : (map : ProjectMaps) (file : List ℕ) → HasGeometry p.geometry p.places file → StandsAt cap q map g file → Stands cap map g file
  stands_here map file has st = record { geometry = p.geometry; places = p.places; has = has; cap_is = refl; slot = slot_of p.slots; which = framed.which; at = st }

  stands_there : (map : ProjectMaps) (file : List ℕ) → HasGeometry p.geometry p.places file → StandsAt cap (turned q) map (g + 1) file → Stands cap map (g + 1) file
  stands_there map file has st = record {
    geometry = p.geometry;
    places = p.places;
    has = has;
    cap_is = refl;
    slot = other_slot (slot_of p.slots);
    which = flip_which (slot_of p.slots);
    at = subst (λ (r : Parts). StandsAt cap r map (g + 1) file) (sym (flipped p.places (slot_of p.slots))) st;
  }

  kept_header : (old new : List ℕ) → KeepsHeader old new → HasGeometry p.geometry p.places old → HasGeometry p.geometry p.places new
  kept_header old new keeps has = geometry_kept p.geometry p.places framed.allowed framed.laid_out old new keeps has

  pub is_kept : (p.must_reopen ≡ false → IsReady facts p) → IsProjectKept facts (project_state p)
  is_kept ready go file left = stands_here (project_of p.maps) file ((ready go).geometry file left) ((ready go).stands file left)

  -- as a contract sees it
  pub kept_view : (v : State D) → project_state p ≡ v → (p.must_reopen ≡ false → IsReady facts p) → IsProjectKept facts v
  kept_view v is ready = subst (λ (w : State D). IsProjectKept facts w) is (is_kept ready)

  -- a call that leaves the disk alone
  pub no_moment : (v : State D) → project_state p ≡ v → (p.must_reopen ≡ false → IsReady facts p)
      → ((file : List ℕ) → facts.left_since v.disk (facts.moment v.disk) file → facts.may_leave v.disk file)
      → v.must_reopen ≡ false → LeavesOnly facts v.disk v.disk (StandsFor v.cap (project_of v.maps))
  no_moment v is ready only go = started facts v.disk (StandsFor v.cap (project_of v.maps)) (λ file left. (v.generation, kept_view v is ready go file (only file left)))

  pub no_outcome : (v : State D) (line : List ℕ) → project_state p ≡ v → (p.must_reopen ≡ false → IsReady facts p)
      → ((file : List ℕ) → facts.left_since v.disk (facts.moment v.disk) file → facts.may_leave v.disk file)
      → v.must_reopen ≡ false → LeavesOnly facts v.disk v.disk (IsOutcome v.cap (project_of v.maps) line)
  no_outcome v line is ready only go = weaker facts v.disk v.disk (StandsFor v.cap (project_of v.maps)) (IsOutcome v.cap (project_of v.maps) line) (no_moment v is ready only go) (λ file st. inl st)

  -- the map's body fits the other slot
  pub body_fits : (bytes : List ℕ) → bytes ≡ project_body (project_of p.maps) → WellFormedProject (project_of p.maps) → 13 + length bytes ≤ (other_of p.slots).length
  body_fits bytes is formed =
      let size : length bytes ≡ body_len (project_of p.maps) = project_size (project_of p.maps) bytes formed (inl (sym is)) in
      let len : (other_of p.slots).length ≡ p.geometry.slot = ap (λ (a : Area). a.length) other_is ∙ other_length p.geometry p.places framed.allowed framed.laid_out (slot_of p.slots) in
      omega (arith, size, len, framed.fits, framed.allowed.slot_low)

  module _ (ready : IsReady facts p) where
    -- during a change of the live slot
    pub turn_moments : (new : D) (bytes : List ℕ) → bytes ≡ project_body (project_of p.maps) → WellFormedProject (project_of p.maps)
        → LeavesOnly facts p.disk new (From (facts.may_leave p.disk) (MayTurn cap g q bytes)) → LeavesOnly facts p.disk new (StandsFor cap (project_of p.maps))
    turn_moments new bytes is formed leaves = weaker facts p.disk new (From (facts.may_leave p.disk) (MayTurn cap g q bytes)) (StandsFor cap (project_of p.maps)) leaves
        (λ file from.
        let has = kept_header from.0 file from.2.header (ready.geometry from.0 from.1) in
        ⊎_elim (λ here. (g, stands_here (project_of p.maps) file has here)) (λ there. (g + 1, stands_there (project_of p.maps) file has there))
        (from.2.stands (project_of p.maps) formed (sym is) (ready.stands from.0 from.1)))

    -- and after it
    pub sound_turned : (new : D) (s : Slots) (j : journal.JournalState) (bytes : List ℕ) → bytes ≡ project_body (project_of p.maps) → WellFormedProject (project_of p.maps)
        → Follows (Turns cap g q bytes) (facts.may_leave p.disk) (facts.may_leave new) → Each (facts.may_leave new) (HasSomeSlots s)
        → (first_area s ≡ first_area p.slots) × (second_of s ≡ second_of p.slots) → slot_of s ≡ other_slot (slot_of p.slots) → generation_of s ≡ g + 1
        → j ≡ journal.opened q.other_journal [] → journal.IsReadyIn j (facts.may_leave new)
        → IsProjectSound facts (record p { disk = new; slots = s; journal = j })
    sound_turned new s j bytes is formed turns slots areas slot_is generation_is journal_is ends =
        let parts : which_parts p.places (slot_of s) ≡ turned q = ap (which_parts p.places) slot_is ∙ flipped p.places (slot_of p.slots) in
        let area : j.area ≡ (which_parts p.places (slot_of s)).journal = ap (λ (k : journal.JournalState). k.area) journal_is ∙ sym (ap (λ (r : Parts). r.journal) parts) in
        record {
          framed = record {
            allowed = framed.allowed;
            laid_out = framed.laid_out;
            first = areas.0 ∙ framed.first;
            second = areas.1 ∙ framed.second;
            which = omega (arith, slot_is, flip_which (slot_of p.slots));
            journal = area;
            fits = framed.fits;
          };
          ready = λ _. record {
            journal = ap (λ (k : journal.JournalState). k.must_reopen) journal_is;
            geometry = λ file left. let from = turns file left in kept_header from.0 file from.2.header (ready.geometry from.0 from.1);
            stands = λ file left.
                let from = turns file left in
                subst (λ (r : Parts). StandsAt cap r (project_of p.maps) (generation_of s) file) (sym parts)
                (subst (λ (k : ℕ). StandsAt cap (turned q) (project_of p.maps) k file) (sym generation_is) (from.2.stands (project_of p.maps) formed (sym is) (ready.stands from.0 from.1)));
            slots = slots;
            ends = ends (ap (λ (k : journal.JournalState). k.must_reopen) journal_is);
          };
        }

    -- during an append
    pub append_moments : (new : D) (more : List (List ℕ)) (next : ProjectMaps) → Leads cap (project_of p.maps) more next
        → LeavesOnly facts p.disk new (From (facts.may_leave p.disk) (MayAppend p.journal.area more))
        → LeavesOnly facts p.disk new (λ file. StandsFor cap (project_of p.maps) file ⊎ StandsFor cap next file)
    append_moments new more next leads leaves =
        weaker facts p.disk new (From (facts.may_leave p.disk) (MayAppend p.journal.area more)) (λ file. StandsFor cap (project_of p.maps) file ⊎ StandsFor cap next file) leaves
        (λ file from.
        let has = kept_header from.0 file (append_header cap g q order p.journal.area framed.journal more from.0 file from.2.keeps) (ready.geometry from.0 from.1) in
        ⊎_elim (λ same. inl (g, stands_here (project_of p.maps) file has same)) (λ longer. inr (g, stands_here next file has longer))
        (may_append cap g q order p.journal.area framed.journal more (project_of p.maps) next from.0 file leads from.2 (ready.stands from.0 from.1)))

    -- of one line
    pub line_moments : (new : D) (line : List ℕ) (next : ProjectMaps) → LeadsTo cap (project_of p.maps) line next
        → LeavesOnly facts p.disk new (From (facts.may_leave p.disk) (MayAppend p.journal.area (line ∷ []))) → LeavesOnly facts p.disk new (IsOutcome cap (project_of p.maps) line)
    line_moments new line next leads leaves =
        weaker facts p.disk new (λ file. StandsFor cap (project_of p.maps) file ⊎ StandsFor cap next file) (IsOutcome cap (project_of p.maps) line)
        (append_moments new (line ∷ []) next (leads_one cap (project_of p.maps) line next leads) leaves)
        (λ file stands. ⊎_elim (λ same. inl same) (λ longer. inr (next, leads, longer)) stands)

    -- and after it
    pub sound_recorded : (new : D) (j : journal.JournalState) (end : ℕ) (m : MapsView) (more : List (List ℕ)) (next : ProjectMaps) → Leads cap (project_of p.maps) more next
        → project_of m ≡ next → body_len next ≤ cap
        → Follows (Appends p.journal.area more) (facts.may_leave p.disk) (facts.may_leave new)
        → j ≡ record p.journal { next = end; must_reopen = false }
        → journal.IsReadyIn j (facts.may_leave new)
        → IsProjectSound facts (record p { disk = new; journal = j; maps = m })
    sound_recorded new j end m more next leads map_is short appends journal_is ends =
        let area : j.area ≡ p.journal.area = ap (λ (k : journal.JournalState). k.area) journal_is in
        let go : j.must_reopen ≡ false = ap (λ (k : journal.JournalState). k.must_reopen) journal_is in
        record {
          framed = record {
            allowed = framed.allowed;
            laid_out = framed.laid_out;
            first = framed.first;
            second = framed.second;
            which = framed.which;
            journal = area ∙ framed.journal;
            fits = subst (λ (t : ProjectMaps). body_len t ≤ cap) (sym map_is) short;
          };
          ready = λ _. record {
            journal = go;
            geometry = λ file left.
                let from = appends file left in
                kept_header from.0 file (append_header cap g q order p.journal.area framed.journal more from.0 file from.2.keeps) (ready.geometry from.0 from.1);
            stands = λ file left.
                let from = appends file left in
                subst (λ (t : ProjectMaps). StandsAt cap q t g file) (sym map_is)
                (appended cap g q order p.journal.area framed.journal more (project_of p.maps) next from.0 file leads from.2 (ready.stands from.0 from.1));
            slots = λ file left.
                let from = appends file left in
                let has = ready.slots from.0 from.1 in (
                  has.0,
                  slots_kept p.slots q.journal.base q.journal.length from.0 file (subst (λ (a : Area). KeepsOutside a.base a.length from.0 file) framed.journal from.2.keeps)
                      (subst (λ (a : Area). areas.IsApart a q.journal.base q.journal.length) (sym live_is) (inl order.live_first))
                      (subst (λ (a : Area). areas.IsApart a q.journal.base q.journal.length) (sym other_is) (inl order.other_first))
                      (subst (λ (a : Area). 0 < a.length) (sym other_is) (omega (arith, order.other_some))) has.0 has.1,
                );
            ends = ends go;
          };
        }

-- a call that leaves the disk alone, as a contract sees it
module _ {D : Type 0} (facts : Ghosts D) (v : State D) (kept : IsProjectKept facts v)
    (only : (file : List ℕ) → facts.left_since v.disk (facts.moment v.disk) file → facts.may_leave v.disk file) where
  pub still_moment : v.must_reopen ≡ false → LeavesOnly facts v.disk v.disk (StandsFor v.cap (project_of v.maps))
  still_moment go = started facts v.disk (StandsFor v.cap (project_of v.maps)) (λ file left. (v.generation, kept go file (only file left)))

-- a checkpoint, and then an append
pub both_moments : {D : Type 0} (facts : Ghosts D) (cap : ℕ) (old mid : ProjectMaps) (mid_cap : ℕ) (line : List ℕ) (d0 d1 d2 : D) → mid ≡ old → mid_cap ≡ cap
    → LeavesOnly facts d0 d1 (StandsFor cap old) → LeavesOnly facts d1 d2 (IsOutcome mid_cap mid line) → LeavesOnly facts d0 d2 (IsOutcome cap old line)
both_moments facts cap old mid mid_cap line d0 d1 d2 map_is cap_is first second =
    and_then facts d0 d1 d2 (IsOutcome cap old line)
    (weaker facts d0 d1 (StandsFor cap old) (IsOutcome cap old line) first (λ file st. inl st))
    (subst (λ (k : ℕ). LeavesOnly facts d1 d2 (IsOutcome k old line)) cap_is (subst (λ (t : ProjectMaps). LeavesOnly facts d1 d2 (IsOutcome mid_cap t line)) map_is second))

pub room_moments : {D : Type 0} (facts : Ghosts D) (cap : ℕ) (old mid : ProjectMaps) (line : List ℕ) (d0 d1 : D) → mid ≡ old
    → LeavesOnly facts d0 d1 (StandsFor cap mid) → LeavesOnly facts d0 d1 (IsOutcome cap old line)
room_moments facts cap old mid line d0 d1 map_is first =
    weaker facts d0 d1 (StandsFor cap mid) (IsOutcome cap old line) first (λ file st. inl (subst (λ (t : ProjectMaps). StandsFor cap t file) map_is st))
