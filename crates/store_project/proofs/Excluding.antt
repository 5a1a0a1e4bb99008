-- A file stands for a map, is blank, is damaged at one place, has a bad geometry or is foreign: one of these at most.
use Rattle.std.proofs.Common.{◌≡◌, inl, inr, ◌<◌, ◌+◌, ℕ, Bool, true, false, List, [], ◌∷◌, ◌++◌, length, drop, eqb, cond, refl, sym, ◌∙◌, ap, subst, arith}
use Rattle.store_disk.proofs.Bytes.{has_same}
use Rattle.store_journal.specs.Records.{IsJournal, records_bytes}
use Rattle.store_journal.proofs.OneReading as gates
use Rattle.store_slots.specs.Bodies.{IsLive}
use Rattle.store_slots.specs.Damage as slots
use Rattle.store_slots.proofs.OneBody as bodies
use Rattle.map_tables.specs.Projects.{ProjectMaps, WellFormedProject}
use Rattle.map_tables.specs.ProjectBody.{HasBody}
use Rattle.map_tables.proofs.BodyLaws.{one_project}
use Rattle.map_commands.specs.ProjectLines.{Leads, LeadsTo}
use Rattle.store_project.specs.Places.{IsAllowed, AreLaidOut, cap_of, header_bytes, which_parts}
use Rattle.store_project.specs.Stands.{HasGeometry, Stands, StandsAt}
use Rattle.store_project.specs.Damage.{HasBadGeometry, IsBadChain, IsBadLine, IsBadPart, IsBlank, IsProjectDamagedAt, IsForeign, IsGateFault, IsLeastGateFault}
use Rattle.store_project.specs.declared.geometry.Geometry.{Geometry}
use Rattle.store_project.specs.declared.places.Places.{Places}
use Rattle.store_project.specs.declared.places.Parts.{Parts}
use Rattle.store_project.proofs.OneMap.{journal_told, one_geometry, one_layout, one_step, slot_told}

-- ---- the header

pub foreign_bad : (file : List ℕ) → HasBadGeometry file → IsForeign file → ⊥
foreign_bad file (s, j, low, high, has, not) foreign = foreign s j low high has

module _ (g : Geometry) (p : Places) (file : List ℕ) (has : HasGeometry g p file) where
  pub foreign_none : IsForeign file → ⊥
  foreign_none foreign = foreign g.slot g.journal (omega (arith, has.allowed.slot_high)) (omega (arith, has.allowed.journal_high)) has.header

  pub bad_none : HasBadGeometry file → ⊥
  bad_none (s, j, low, high, there, not) =
      let same : header_bytes g.slot g.journal ≡ header_bytes s j = has_same 0 (header_bytes g.slot g.journal) (header_bytes s j) file refl has.header there in
      let slot : g.slot ≡ s = slot_told g.slot s g.journal j (omega (arith, has.allowed.slot_high)) low same in
      let length_of : g.journal ≡ j = journal_told g.slot s g.journal j (omega (arith, has.allowed.journal_high)) high same in
      not (subst (λ (k : ℕ). IsAllowed k j) slot (subst (λ (k : ℕ). IsAllowed g.slot k) length_of has.allowed))

  -- what is said of the parts by another reading of the header holds of these
  pub here : (P : Geometry → Places → Type 0) (h : Geometry) (q : Places) → HasGeometry h q file → P h q → P g p
  here P h q other is =
      let same : g ≡ h = one_geometry g h p q file has other in
      let laid : AreLaidOut g q = subst (λ (x : Geometry). AreLaidOut x q) (sym same) other.laid_out in
      subst (λ (y : Places). P g y) (sym (one_layout g p q has.laid_out laid)) (subst (λ (x : Geometry). P x q) (sym same) is)

-- ---- the first line that is no accepted command

abbrev head_of : List (List ℕ) → List ℕ
head_of [] = []
head_of (line ∷ lines) = line

one_front : (cap : ℕ) (base : ProjectMaps) (f : List (List ℕ)) (l : List ℕ) (b : List (List ℕ)) (m : ProjectMaps) (g : List (List ℕ)) (k : List ℕ) (c : List (List ℕ)) (n : ProjectMaps)
    → f ++ l ∷ b ≡ g ++ k ∷ c → Leads cap base f m → ((new : ProjectMaps) → ¬ LeadsTo cap m l new) → Leads cap base g n → ((new : ProjectMaps) → ¬ LeadsTo cap n k new) → f ≡ g
one_front cap base [] l b m [] k c n is first bad second worse = refl
one_front cap base [] l b m (y ∷ g) k c n is first bad second worse =
    absurd (bad second.0 (subst (λ (t : ProjectMaps). LeadsTo cap t l second.0) (sym first) (subst (λ (x : List ℕ). LeadsTo cap base x second.0) (sym (ap head_of is)) second.1)))
one_front cap base (x ∷ f) l b m [] k c n is first bad second worse =
    absurd (worse first.0 (subst (λ (t : ProjectMaps). LeadsTo cap t k first.0) (sym second) (subst (λ (x : List ℕ). LeadsTo cap base x first.0) (ap head_of is) first.1)))
one_front cap base (x ∷ f) l b m (y ∷ g) k c n is first bad second worse =
    let same : x ≡ y = ap head_of is in
    let next : first.0 ≡ second.0 = one_step cap base x first.0 second.0 first.1 (subst (λ (z : List ℕ). LeadsTo cap base z second.0) (sym same) second.1) in
    let rest : f ≡ g = one_front cap first.0 f l b m g k c n (ap (λ (ls : List (List ℕ)). drop 1 ls) is) first.2 bad (subst (λ (t : ProjectMaps). Leads cap t g n) (sym next) second.2) worse in
    ap (λ (z : List ℕ). z ∷ f) same ∙ ap (λ (ls : List (List ℕ)). y ∷ ls) rest

-- a line in a list that is accepted whole is accepted
in_turn : (cap : ℕ) (base : ProjectMaps) (f : List (List ℕ)) (l : List ℕ) (b : List (List ℕ)) (m n : ProjectMaps)
    → Leads cap base (f ++ l ∷ b) n → Leads cap base f m → (new : ProjectMaps) × LeadsTo cap m l new
in_turn cap base [] l b m n all front = (all.0, subst (λ (t : ProjectMaps). LeadsTo cap t l all.0) (sym front) all.1)
in_turn cap base (x ∷ f) l b m n all front =
    in_turn cap front.0 f l b m n (subst (λ (t : ProjectMaps). Leads cap t (f ++ l ∷ b) n) (one_step cap base x all.0 front.0 all.1 front.1) all.2) front.2

-- ---- what hangs on a live slot

module _ (cap : ℕ) (q : Parts) (file : List ℕ) where
  one_base : (x y : ProjectMaps) (a b : List ℕ) → WellFormedProject x → WellFormedProject y → HasBody x a → HasBody y b → a ≡ b → x ≡ y
  one_base x y a b first second is too same = one_project x y b first second (subst (HasBody x) same is) too

  no_gate_fault : (lines : List (List ℕ)) (place : ℕ) → IsJournal q.journal lines file → q.other_journal.base < length file → IsGateFault q place file → ⊥
  no_gate_fault lines place journal other (inl bad) = gates.not_both q.journal file lines place journal bad
  no_gate_fault lines place journal other (inr (there, short)) = omega (arith, other, short)

  no_bad_line : (base other_base : ProjectMaps) (m : ProjectMaps) (lines : List (List ℕ)) (place : ℕ) → base
      ≡ other_base → IsJournal q.journal lines file → Leads cap base lines m → IsBadLine cap q other_base place file → ⊥
  no_bad_line base other_base m lines place same journal leads bad =
      let one : lines ≡ bad.front ++ bad.line ∷ bad.back = gates.one_journal q.journal file lines (bad.front ++ bad.line ∷ bad.back) journal bad.journal in
      let all : Leads cap base (bad.front ++ bad.line ∷ bad.back) m = subst (λ (ls : List (List ℕ)). Leads cap base ls m) one leads in
      let front : Leads cap base bad.front bad.map = subst (λ (t : ProjectMaps). Leads cap t bad.front bad.map) (sym same) bad.leads in
      let next = in_turn cap base bad.front bad.line bad.back bad.map m all front in
      bad.refused next.0 next.1

  pub no_bad_chain : (m : ProjectMaps) (k h : ℕ) (bytes : List ℕ) (place : ℕ) → StandsAt cap q m k file → IsLive q.live q.other h bytes file → IsBadChain cap q bytes place file → ⊥
  no_bad_chain m k h bytes place st live (inl (none, there)) = none st.base st.well_formed (subst (HasBody st.base) (bodies.one_live q.live q.other file k h st.bytes bytes st.live live).1 st.body)
  no_bad_chain m k h bytes place st live (inr (base, formed, is, inl gate)) = no_gate_fault st.lines place st.journal st.other gate.fault
  no_bad_chain m k h bytes place st live (inr (base, formed, is, inr bad)) =
      let same : st.base ≡ base = one_base st.base base st.bytes bytes st.well_formed formed st.body is (bodies.one_live q.live q.other file k h st.bytes bytes st.live live).1 in
      no_bad_line st.base base m st.lines place same st.journal st.leads bad

  gate_place : (x y : ℕ) → IsLeastGateFault q x file → IsLeastGateFault q y file → x ≡ y
  gate_place x y first second = omega (arith, first.least y second.fault, second.least x first.fault)

  line_place : (base other_base : ProjectMaps) (x y : ℕ) → base ≡ other_base → IsBadLine cap q base x file → IsBadLine cap q other_base y file → x ≡ y
  line_place base other_base x y same first second =
      let one : first.front ++ first.line ∷ first.back ≡ second.front ++ second.line ∷ second.back =
      gates.one_journal q.journal file (first.front ++ first.line ∷ first.back)
      (second.front ++ second.line ∷ second.back) first.journal second.journal in
      let front : first.front ≡ second.front = one_front cap base first.front first.line first.back first.map second.front second.line second.back second.map one first.leads first.refused
      (subst (λ (t : ProjectMaps). Leads cap t second.front second.map) (sym same) second.leads) second.refused in
      first.there ∙ ap (λ (ls : List (List ℕ)). q.journal.base + length (records_bytes ls)) front ∙ sym second.there

  pub chain_place : (bytes : List ℕ) (x y : ℕ) → IsBadChain cap q bytes x file → IsBadChain cap q bytes y file → x ≡ y
  chain_place bytes x y (inl (none, there)) (inl (nor, other)) = there ∙ sym other
  chain_place bytes x y (inl (none, there)) (inr (base, formed, is, rest)) = absurd (none base formed is)
  chain_place bytes x y (inr (base, formed, is, rest)) (inl (none, there)) = absurd (none base formed is)
  chain_place bytes x y (inr (base, formed, is, inl gate)) (inr (other, well, at, inl fault)) = gate_place x y gate fault
  chain_place bytes x y (inr (base, formed, is, inl gate)) (inr (other, well, at, inr bad)) = absurd (no_gate_fault (bad.front ++ bad.line ∷ bad.back) x bad.journal bad.other gate.fault)
  chain_place bytes x y (inr (base, formed, is, inr bad)) (inr (other, well, at, inl gate)) = absurd (no_gate_fault (bad.front ++ bad.line ∷ bad.back) y bad.journal bad.other gate.fault)
  chain_place bytes x y (inr (base, formed, is, inr bad)) (inr (other, well, at, inr worse)) = line_place base other x y (one_base base other bytes bytes formed well is at refl) bad worse

-- ---- the parts

module _ (g : Geometry) (p : Places) (file : List ℕ) where
  abbrev picked : Bool → Parts
  picked t = cond t (record { live = p.a; other = p.b; journal = p.first; other_journal = p.second }) (record { live = p.b; other = p.a; journal = p.second; other_journal = p.first })

  -- a slot that is live is at no fault as a slot
  live_slot : (t : Bool) (h : ℕ) (bytes : List ℕ) (place : ℕ) → IsLive (picked t).live (picked t).other h bytes file → slots.AreSlotsDamagedAt p.a p.b place file → ⊥
  live_slot true h bytes place live bad = bodies.not_damaged p.a p.b file h place bytes live bad
  live_slot false h bytes place live bad = bodies.nor_damaged p.a p.b file h place bytes live bad

  live_blank : (t : Bool) (h : ℕ) (bytes : List ℕ) → IsLive (picked t).live (picked t).other h bytes file → slots.AreBlank p.a p.b file → ⊥
  live_blank true h bytes live blank = bodies.not_blank p.a p.b file h bytes live blank
  live_blank false h bytes live blank = bodies.not_blank p.b p.a file h bytes live (blank.1, blank.0)

  one_pick : (t u : Bool) (h k : ℕ) (x y : List ℕ) → IsLive (picked t).live (picked t).other h x file → IsLive (picked u).live (picked u).other k y file → t ≡ u
  one_pick true true h k x y first second = refl
  one_pick false false h k x y first second = refl
  one_pick true false h k x y first second = absurd (bodies.one_slot p.a p.b h k x y file first second)
  one_pick false true h k x y first second = absurd (bodies.one_slot p.b p.a h k x y file first second)

  pub stands_whole : (s : ℕ) (m : ProjectMaps) (k place : ℕ) → StandsAt (cap_of g) (which_parts p s) m k file → IsBadPart g p place file → ⊥
  stands_whole s m k place st (inl bad) = live_slot (eqb s 0) k st.bytes place st.live bad
  stands_whole s m k place st (inr (slot, h, bytes, which, live, chain)) =
      let same : eqb slot 0 ≡ eqb s 0 = one_pick (eqb slot 0) (eqb s 0) h k bytes st.bytes live st.live in
      no_bad_chain (cap_of g) (which_parts p s) file m k h bytes place st (subst (λ (t : Bool). IsLive (picked t).live (picked t).other h bytes file) same live)
      (subst (λ (t : Bool). IsBadChain (cap_of g) (picked t) bytes place file) same chain)

  pub stands_open : (s : ℕ) (m : ProjectMaps) (k : ℕ) → StandsAt (cap_of g) (which_parts p s) m k file → slots.AreBlank p.a p.b file → ⊥
  stands_open s m k st blank = live_blank (eqb s 0) k st.bytes st.live blank

  pub blank_whole : (place : ℕ) → slots.AreBlank p.a p.b file → IsBadPart g p place file → ⊥
  blank_whole place blank (inl bad) = bodies.nor_both p.a p.b file place blank bad
  blank_whole place blank (inr (slot, h, bytes, which, live, chain)) = live_blank (eqb slot 0) h bytes live blank

  pub part_place : (x y : ℕ) → IsBadPart g p x file → IsBadPart g p y file → x ≡ y
  part_place x y (inl first) (inl second) = bodies.one_place p.a p.b file x y first second
  part_place x y (inl first) (inr (slot, h, bytes, which, live, chain)) = absurd (live_slot (eqb slot 0) h bytes x live first)
  part_place x y (inr (slot, h, bytes, which, live, chain)) (inl second) = absurd (live_slot (eqb slot 0) h bytes y live second)
  part_place x y (inr (slot, h, bytes, which, live, chain)) (inr (other, k, body_of, either, alive, fault)) =
      let same : eqb other 0 ≡ eqb slot 0 = one_pick (eqb other 0) (eqb slot 0) k h body_of bytes alive live in
      let one : bytes ≡ body_of = (bodies.one_live (picked (eqb slot 0)).live (picked (eqb slot 0)).other file h k bytes body_of live
      (subst (λ (t : Bool). IsLive (picked t).live (picked t).other k body_of file) same alive)).1 in
      chain_place (cap_of g) (picked (eqb slot 0)) file bytes x y chain
      (subst (λ (b : List ℕ). IsBadChain (cap_of g) (picked (eqb slot 0)) b y file) (sym one) (subst (λ (t : Bool). IsBadChain (cap_of g) (picked t) body_of y file) same fault))

-- ---- whole files

at_own : (cap : ℕ) (m : ProjectMaps) (k : ℕ) (file : List ℕ) (st : Stands cap m k file) → StandsAt (cap_of st.geometry) (which_parts st.places st.slot) m k file
at_own cap m k file st = subst (λ (c : ℕ). StandsAt c (which_parts st.places st.slot) m k file) (sym st.cap_is) st.at

pub stands_foreign : (cap : ℕ) (m : ProjectMaps) (k : ℕ) (file : List ℕ) → Stands cap m k file → IsForeign file → ⊥
stands_foreign cap m k file st foreign = foreign_none st.geometry st.places file st.has foreign

pub stands_bad : (cap : ℕ) (m : ProjectMaps) (k : ℕ) (file : List ℕ) → Stands cap m k file → HasBadGeometry file → ⊥
stands_bad cap m k file st bad = bad_none st.geometry st.places file st.has bad

pub stands_blank : (cap : ℕ) (m : ProjectMaps) (k : ℕ) (file : List ℕ) → Stands cap m k file → IsBlank file → ⊥
stands_blank cap m k file st (h, q, has, blank) =
    stands_open st.geometry st.places file st.slot m k (at_own cap m k file st) (here st.geometry st.places file st.has (λ g p. slots.AreBlank p.a p.b file) h q has blank)

pub stands_damaged : (cap : ℕ) (m : ProjectMaps) (k place : ℕ) (file : List ℕ) → Stands cap m k file → IsProjectDamagedAt place file → ⊥
stands_damaged cap m k place file st (h, q, has, bad) =
    stands_whole st.geometry st.places file st.slot m k place (at_own cap m k file st) (here st.geometry st.places file st.has (λ g p. IsBadPart g p place file) h q has bad)

pub blank_foreign : (file : List ℕ) → IsBlank file → IsForeign file → ⊥
blank_foreign file (h, q, has, blank) foreign = foreign_none h q file has foreign

pub blank_bad : (file : List ℕ) → IsBlank file → HasBadGeometry file → ⊥
blank_bad file (h, q, has, blank) bad = bad_none h q file has bad

pub blank_damaged : (place : ℕ) (file : List ℕ) → IsBlank file → IsProjectDamagedAt place file → ⊥
blank_damaged place file (h, q, has, blank) (g, p, other, bad) = blank_whole h q file place blank (here h q file has (λ x y. IsBadPart x y place file) g p other bad)

pub damaged_foreign : (place : ℕ) (file : List ℕ) → IsProjectDamagedAt place file → IsForeign file → ⊥
damaged_foreign place file (h, q, has, bad) foreign = foreign_none h q file has foreign

pub damaged_bad : (place : ℕ) (file : List ℕ) → IsProjectDamagedAt place file → HasBadGeometry file → ⊥
damaged_bad place file (h, q, has, bad) worse = bad_none h q file has worse

pub damaged_once : (x y : ℕ) (file : List ℕ) → IsProjectDamagedAt x file → IsProjectDamagedAt y file → x ≡ y
damaged_once x y file (h, q, has, bad) (g, p, other, worse) = part_place h q file x y bad (here h q file has (λ a b. IsBadPart a b y file) g p other worse)
