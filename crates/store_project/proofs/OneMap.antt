-- The bytes of a file stand for one map and one generation at most.
use Rattle.std.proofs.Common.{◌≡◌, ◌<◌, ◌+◌, ◌^◌, ℕ, Bool, true, false, List, [], ◌∷◌, eqb, cond, get_or, Result, Ok, Err, refl, sym, ◌∙◌, ap, subst, arith}
use Rattle.std.proofs.lemmas.Nat.{from_le_bytes-to_le_bytes_4}
use Rattle.std.specs.Int.{from_le_bytes, w32}
use native.Mathlib.Bridge.{le_prop}
use mathlib.Core.HLevel.{is_prop→PathP}
use Rattle.store_disk.specs.declared.area.Area.{Area}
use Rattle.store_disk.proofs.Bytes.{has_same}
use Rattle.store_journal.proofs.OneReading.{one_journal}
use Rattle.store_slots.proofs.OneBody.{one_live, one_slot}
use Rattle.map_tables.specs.Projects.{ProjectMaps}
use Rattle.map_tables.specs.ProjectBody.{HasBody}
use Rattle.map_tables.proofs.BodyLaws.{one_project}
use Rattle.map_commands.specs.ProjectStep.{step}
use Rattle.map_commands.specs.declared.project.command.ProjectCommand.{ProjectCommand}
use Rattle.map_commands.proofs.ProjectWords.{project_spelling-one}
use Rattle.store_project.specs.Places.{AreLaidOut, cap_of, header_bytes, which_parts}
use Rattle.store_project.specs.Stands.{HasGeometry, Stands, StandsAt}
use Rattle.map_commands.specs.ProjectLines.{Leads, LeadsTo}
use Rattle.store_project.specs.declared.geometry.Geometry.{Geometry}
use Rattle.store_project.specs.declared.places.Places.{Places}
use Rattle.store_project.specs.declared.places.Parts.{Parts}

-- ---- one line, and one list of lines, lead to one map

abbrev map_in : ProjectMaps → Result (ProjectMaps × ℕ) ℕ → ProjectMaps
map_in d (Ok y) = y.0
map_in d (Err e) = d

pub one_step : (cap : ℕ) (old : ProjectMaps) (line : List ℕ) (m n : ProjectMaps) → LeadsTo cap old line m → LeadsTo cap old line n → m ≡ n
one_step cap old line m n (k, a) (l, b) =
    let same : a.command ≡ b.command = project_spelling-one a.command b.command a.range b.range (sym a.line_is ∙ b.line_is) in
    ap (map_in old) (sym a.stepped ∙ ap (λ (c : ProjectCommand). step old c cap) same ∙ b.stepped)

pub one_replay : (cap : ℕ) (old : ProjectMaps) (lines : List (List ℕ)) (m n : ProjectMaps) → Leads cap old lines m → Leads cap old lines n → m ≡ n
one_replay cap old [] m n a b = a ∙ sym b
one_replay cap old (line ∷ lines) m n (x, first, a) (y, second, b) =
    one_replay cap x lines m n a (subst (λ (z : ProjectMaps). Leads cap z lines n) (sym (one_step cap old line x y first second)) b)

-- ---- one header tells one place of each part

one_area : (a b : Area) → a.base ≡ b.base → a.length ≡ b.length → a ≡ b
one_area a b base len = λ i. record { base = base i; length = len i; in_range = is_prop→PathP (λ j. base j + len j < 2 ^ 64) (λ j. le_prop) a.in_range b.in_range i }

pub slot_told : (s t j k : ℕ) → s < 2 ^ 32 → t < 2 ^ 32 → header_bytes s j ≡ header_bytes t k → s ≡ t
slot_told s t j k low high is =
    sym (from_le_bytes-to_le_bytes_4 s low) ∙ ap (λ (l : List ℕ). from_le_bytes w32 (get_or l 8 0 ∷ get_or l 9 0 ∷ get_or l 10 0 ∷ get_or l 11 0 ∷ [])) is ∙ from_le_bytes-to_le_bytes_4 t high

pub journal_told : (s t j k : ℕ) → j < 2 ^ 32 → k < 2 ^ 32 → header_bytes s j ≡ header_bytes t k → j ≡ k
journal_told s t j k low high is =
    sym (from_le_bytes-to_le_bytes_4 j low) ∙ ap (λ (l : List ℕ). from_le_bytes w32 (get_or l 12 0 ∷ get_or l 13 0 ∷ get_or l 14 0 ∷ get_or l 15 0 ∷ [])) is ∙ from_le_bytes-to_le_bytes_4 k high

pub one_geometry : (g h : Geometry) (p q : Places) (file : List ℕ) → HasGeometry g p file → HasGeometry h q file → g ≡ h
one_geometry g h p q file a b =
    let same : header_bytes g.slot g.journal ≡ header_bytes h.slot h.journal = has_same 0 (header_bytes g.slot g.journal) (header_bytes h.slot h.journal) file refl a.header b.header in
    let slot : g.slot ≡ h.slot = slot_told g.slot h.slot g.journal h.journal (omega (arith, a.allowed.slot_high)) (omega (arith, b.allowed.slot_high)) same in
    let journal : g.journal ≡ h.journal = journal_told g.slot h.slot g.journal h.journal (omega (arith, a.allowed.journal_high)) (omega (arith, b.allowed.journal_high)) same in
    λ i. record { slot = slot i; journal = journal i }

pub one_layout : (g : Geometry) (p q : Places) → AreLaidOut g p → AreLaidOut g q → p ≡ q
one_layout g p q a b =
    let first : p.a ≡ q.a = one_area p.a q.a (a.a_base ∙ sym b.a_base) (a.a_length ∙ sym b.a_length) in
    let second : p.b ≡ q.b = one_area p.b q.b (a.b_base ∙ sym b.b_base) (a.b_length ∙ sym b.b_length) in
    let third : p.first ≡ q.first = one_area p.first q.first (a.first_base ∙ sym b.first_base) (a.first_length ∙ sym b.first_length) in
    let fourth : p.second ≡ q.second = one_area p.second q.second (a.second_base ∙ sym b.second_base) (a.second_length ∙ sym b.second_length) in
    λ i. record { a = first i; b = second i; first = third i; second = fourth i }

-- ---- one map

module _ (cap : ℕ) (file : List ℕ) where
  same_parts : (q : Parts) (m n : ProjectMaps) (k l : ℕ) → StandsAt cap q m k file → StandsAt cap q n l file → (m ≡ n) × (k ≡ l)
  same_parts q m n k l a b =
      let live = one_live q.live q.other file k l a.bytes b.bytes a.live b.live in
      let base : a.base ≡ b.base = one_project a.base b.base b.bytes a.well_formed b.well_formed (subst (HasBody a.base) live.1 a.body) b.body in
      let lines : a.lines ≡ b.lines = one_journal q.journal file a.lines b.lines a.journal b.journal in (
        one_replay cap a.base a.lines m n a.leads
            (subst (λ (ls : List (List ℕ)). Leads cap a.base ls n) (sym lines) (subst (λ (t : ProjectMaps). Leads cap t b.lines n) (sym base) b.leads)),
        live.0,
      )

  module _ (p : Places) where
    abbrev picked : Bool → Parts
    picked t = cond t (record { live = p.a; other = p.b; journal = p.first; other_journal = p.second }) (record { live = p.b; other = p.a; journal = p.second; other_journal = p.first })

    either : (t u : Bool) (m n : ProjectMaps) (k l : ℕ) → StandsAt cap (picked t) m k file → StandsAt cap (picked u) n l file → (m ≡ n) × (k ≡ l)
    either true true m n k l a b = same_parts (picked true) m n k l a b
    either false false m n k l a b = same_parts (picked false) m n k l a b
    either true false m n k l a b = absurd (one_slot p.a p.b k l a.bytes b.bytes file a.live b.live)
    either false true m n k l a b = absurd (one_slot p.b p.a k l a.bytes b.bytes file a.live b.live)

    pub one_map_at : (s t : ℕ) (m n : ProjectMaps) (k l : ℕ) → StandsAt cap (which_parts p s) m k file → StandsAt cap (which_parts p t) n l file → (m ≡ n) × (k ≡ l)
    one_map_at s t m n k l a b = either (eqb s 0) (eqb t 0) m n k l a b

pub one_map : (c d : ℕ) (m n : ProjectMaps) (k l : ℕ) (file : List ℕ) → Stands c m k file → Stands d n l file → (c ≡ d) × (m ≡ n) × (k ≡ l)
one_map c d m n k l file a b =
    let g : a.geometry ≡ b.geometry = one_geometry a.geometry b.geometry a.places b.places file a.has b.has in
    let laid : AreLaidOut a.geometry b.places = subst (λ (x : Geometry). AreLaidOut x b.places) (sym g) b.has.laid_out in
    let p : a.places ≡ b.places = one_layout a.geometry a.places b.places a.has.laid_out laid in
    let limit : c ≡ d = sym a.cap_is ∙ ap cap_of g ∙ b.cap_is in
    let both = one_map_at c file a.places a.slot b.slot m n k l a.at
    (subst (λ (x : ℕ). StandsAt x (which_parts a.places b.slot) n l file) (sym limit)
    (subst (λ (y : Places). StandsAt d (which_parts y b.slot) n l file) (sym p) b.at)) in
    (limit, both.0, both.1)
