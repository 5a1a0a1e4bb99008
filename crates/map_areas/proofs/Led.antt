-- Along edges that lead through one sector alone no part of the border has another one inside.
use Rattle.std.proofs.Common.{◌≡◌, ℕ, ◌<◌, All, length, true, false, ◌&&◌, ◌||◌, not, List, [], ◌∷◌, Option, Some, None, refl, sym, ap, ◌∙◌, subst, ⊎_elim, arith}
use Rattle.std.proofs.lemmas.Bool.{false≢true}
use Rattle.std.proofs.lemmas.Int.{by_lt_z}
use Rattle.std.proofs.lemmas.List.Elements.{All-head, All-tail}
use Rattle.std.specs.List.{list_any}
use Rattle.std.specs.Prelude.{ℤ, pos, ◌<ℤ◌, ◌≤ℤ◌}
use Rattle.lump_records.proofs.Signs.{linear}
use Rattle.lump_records.specs.declared.records.Vertex.{Vertex}
use Rattle.map_plane.proofs.Means.{at_is, is_at-same}
use Rattle.map_plane.proofs.Tests.{and_both, both, not_says, or_either, or_left, or_right}
use Rattle.map_plane.specs.Meeting.{ends_at, is_at, is_on}
use Rattle.map_plane.specs.Places.{placed_lines}
use Rattle.map_plane.specs.declared.places.PlacedLine.{PlacedLine}
use Rattle.map_tables.specs.Tables.{Tables}
use Rattle.map_areas.proofs.Any.{any_too}
use Rattle.map_areas.proofs.AlongLines.{crosses_part, far, first_says, has_length, in_line, lies_between, on_from, on_to, one_place, starts_at}
use Rattle.map_areas.proofs.Standing.{both_and, same_sector}
use Rattle.map_areas.specs.Bordered.{is_led, is_led_to}
use Rattle.map_areas.specs.Cuts.{IsLed, uncut}
use Rattle.map_areas.specs.Refusals.{are_several, is_border_part}
use Rattle.map_areas.specs.Stops.{comes_first, crosses_at, is_between_stops, is_met, is_stop, leads_along}
use Rattle.map_areas.specs.Ways.{crosses_way, is_between, is_clear, is_same, runs_along, sector_on_right, way}
use Rattle.map_areas.specs.declared.border.CutEdge.{CutEdge}
use Rattle.map_areas.specs.declared.error.Part.{Part}

-- ---- a stop between two places of an edge

-- a stop that is further along an edge than a place of it isn't where it begins
further : (e : PlacedLine) (a s : Vertex) → is_on e a ≡ true → far e a <ℤ far e s → is_at e.from s ≡ true → ⊥
further e a s oa sa h =
    let zero : far e s ≡ pos 0 = ap (λ (v : Vertex). far e v) (sym (at_is e.from s h)) ∙ starts_at e in
    let low = (in_line e a oa).0 in
    omega (arith, linear)

-- so it lies on the edge, between its ends, and something meets the edge there
inner : (m : Tables) (e : PlacedLine) (a s : Vertex) → is_on e a ≡ true → far e a <ℤ far e s → is_stop m e s ≡ true
    → (is_on e s ≡ true) × ((list_any (is_at s) m.vertices || list_any (crosses_at e s) (placed_lines m)) ≡ true)
inner m e a s oa sa h =
    ⊎_elim (λ k. absurd (further e a s oa sa k))
    (λ k.
    let two = and_both (is_between e s) (list_any (is_at s) m.vertices || list_any (crosses_at e s) (placed_lines m)) k in
    ((and_both (is_on e s) (not (ends_at e s)) two.0).0, two.1))
    (or_either (is_at e.from s) (is_between e s && (list_any (is_at s) m.vertices || list_any (crosses_at e s) (placed_lines m))) h)

pub stop_on : (m : Tables) (e : PlacedLine) (a s : Vertex) → is_on e a ≡ true → far e a <ℤ far e s → is_stop m e s ≡ true → is_on e s ≡ true
stop_on m e a s oa sa h = (inner m e a s oa sa h).0

-- none is, where the way from the one to the other meets nothing
module _ (m : Tables) (e : PlacedLine) (a b s : Vertex) (oa : is_on e a ≡ true) (ob : is_on e b ≡ true)
    (sa : far e a <ℤ far e s) (sb : far e s <ℤ far e b) where
  meets_there : is_on e s ≡ true → (list_any (is_at s) m.vertices || list_any (crosses_at e s) (placed_lines m)) ≡ true → is_clear m (way a b) ≡ true → ⊥
  meets_there os h clear =
      let c = and_both (not (list_any (is_between (way a b)) m.vertices)) (not (list_any (crosses_way (way a b)) (placed_lines m))) clear in
      ⊎_elim
      (λ v. false≢true
      (sym (not_says (list_any (is_between (way a b)) m.vertices) c.0)
      ∙ any_too (is_at s) (is_between (way a b)) m.vertices
      (λ w at. subst (λ (z : Vertex). is_between (way a b) z ≡ true) (at_is s w at) (lies_between e a b s oa ob os sa sb)) v))
      (λ l. false≢true
      (sym (not_says (list_any (crosses_way (way a b)) (placed_lines m)) c.1)
      ∙ any_too (crosses_at e s) (crosses_way (way a b)) (placed_lines m)
      (λ k at. let two = and_both (crosses_way e k) (is_on k s) at in crosses_part e k two.0 s os two.1 a b oa ob sa sb) l))
      (or_either (list_any (is_at s) m.vertices) (list_any (crosses_at e s) (placed_lines m)) h)

  pub none_between : is_stop m e s ≡ true → is_clear m (way a b) ≡ true → ⊥
  none_between h clear =
      let k = inner m e a s oa sa h in
      meets_there k.0 k.1 clear

-- ---- a part of an edge that leads through one sector alone

equal : (u v : ℤ) → u ≤ℤ v → v ≤ℤ u → u ≡ v
equal u v h k = omega (arith, linear)

module _ (m : Tables) (round : Option ℕ) (e : PlacedLine) (p q : Vertex) (op : is_on e p ≡ true) (oq : is_on e q ≡ true)
    (sp : is_stop m e p ≡ true) (sq : (is_stop m e q || is_at e.to q) ≡ true) (pq : far e p <ℤ far e q) (clear : is_clear m (way p q) ≡ true) where
  long : pos 0 <ℤ far e e.to
  long = has_length e p q pq

  -- a part that begins at or behind a place, and before the next one, begins at the place
  begins : (a b : Vertex) → is_on e a ≡ true → is_on e b ≡ true → far e a ≤ℤ far e p → far e p <ℤ far e b → is_clear m (way a b) ≡ true → a ≡ p
  begins a b oa ob ap' pb c =
      by_lt_z (far e a) (far e p)
      (λ lt. absurd (none_between m e a b p oa ob lt pb sp c))
      (λ ge. one_place e a p long oa op (equal (far e a) (far e p) ap' ge))

  -- and it doesn't end before the next one
  ends_behind : (a b : Vertex) → is_on e a ≡ true → is_on e b ≡ true → far e a ≤ℤ far e p → is_clear m (way a b) ≡ true → far e b ≤ℤ far e q
  ends_behind a b oa ob ap' c =
      by_lt_z (far e q) (far e b)
      (λ lt. ⊎_elim
      (λ s. let aq : far e a <ℤ far e q = omega (arith, linear) in absurd (none_between m e a b q oa ob aq lt s c))
      (λ t. let last : far e e.to ≡ far e q = ap (λ (v : Vertex). far e v) (at_is e.to q t) in let high = (in_line e b ob).1 in absurd (omega (arith, linear)))
      (or_either (is_stop m e q) (is_at e.to q) sq))
      (λ ge. ge)

  -- the way from a place to the next one is the part, if that begins before the next one and doesn't reach past it
  same_part : (a b : Vertex) → is_on e a ≡ true → is_on e b ≡ true → far e a ≤ℤ far e p → far e p <ℤ far e b → far e q ≤ℤ far e b → is_clear m (way a b) ≡ true
      → is_same (sector_on_right m (way a b)) round ≡ true → is_same (sector_on_right m (way p q)) round ≡ true
  same_part a b oa ob ap' pb qb c same =
      let first = begins a b oa ob ap' pb c in
      let last = one_place e b q long ob oq (equal (far e b) (far e q) (ends_behind a b oa ob ap' c) qb) in
      ap (λ (v : Vertex). is_same (sector_on_right m (way p v)) round) (sym last) ∙ ap (λ (v : Vertex). is_same (sector_on_right m (way v b)) round) (sym first) ∙ same

  three : (a b : Vertex) → is_led_to m round e a b ≡ true → (comes_first e a b ≡ true) × (is_clear m (way a b) ≡ true) × (is_same (sector_on_right m (way a b)) round ≡ true)
  three a b h =
      let two = and_both (comes_first e a b && is_clear m (way a b)) (is_same (sector_on_right m (way a b)) round) h in
      let one = and_both (comes_first e a b) (is_clear m (way a b)) two.0 in
      (one.0, one.1, two.1)

  pub part_led : (a : Vertex) (ps : List Vertex) → is_on e a ≡ true → is_on e e.to ≡ true → far e a ≤ℤ far e p → is_led m round e a ps ≡ true
      → is_same (sector_on_right m (way p q)) round ≡ true
  part_led a [] oa ot ap' h =
      let t = three a e.to h in
      let high = (in_line e q oq).1 in
      same_part a e.to oa ot ap' (omega (arith, linear)) high t.1 t.2
  part_led a (b ∷ ps) oa ot ap' h =
      let two = and_both (is_stop m e b && is_led_to m round e a b) (is_led m round e b ps) h in
      let one = and_both (is_stop m e b) (is_led_to m round e a b) two.0 in
      let t = three a b one.1 in
      let ab = first_says e a b t.0 in
      let ob = stop_on m e a b oa ab one.0 in
      by_lt_z (far e p) (far e b)
      (λ pb. by_lt_z (far e b) (far e q)
      (λ bq. absurd (none_between m e p q b op oq pb bq one.0 clear))
      (λ qb. same_part a b oa ob ap' pb qb t.1 t.2))
      (λ bp. part_led b ps ob ot bp two.1)

-- ---- all edges

pub same_is : (o r : Option ℕ) → is_same o r ≡ true → o ≡ r
same_is None None h = refl
same_is None (Some k) h = cc
same_is (Some s) r h = sym (same_sector s r h)

-- a part of the border is on one of the edges, which leads through one sector alone
in_round : (m : Tables) (round : Option ℕ) (e : PlacedLine) (p : Part) (ps : List Vertex) → is_between_stops m (way p.from p.to) e ≡ true
    → is_clear m (way p.from p.to) ≡ true → is_led m round e e.from ps ≡ true → is_same (sector_on_right m (way p.from p.to)) round ≡ true
in_round m round e p ps h clear led =
    let w = way p.from p.to in
    let two = and_both (leads_along w e && is_stop m e p.from) (is_stop m e p.to || is_at e.to p.to) h in
    let one = and_both (leads_along w e) (is_stop m e p.from) two.0 in
    let along = and_both (runs_along w e) (comes_first e p.from p.to) one.0 in
    let ends = and_both (is_on e p.from) (is_on e p.to) along.0 in
    let low = (in_line e p.from ends.0).0 in
    let start = starts_at e in
    part_led m round e p.from p.to ends.0 ends.1 one.1 two.1 (first_says e p.from p.to along.1) clear e.from ps (on_from e) (on_to e) (omega (arith, linear)) led

led_one : (m : Tables) (round : Option ℕ) (cs : List CutEdge) (p : Part) → All (IsLed m round) cs → is_border_part m (uncut cs) p ≡ true → is_same round p.sector ≡ true
led_one m round cs p all h =
    let w = way p.from p.to in
    let two = and_both (list_any (is_between_stops m w) (uncut cs) && is_clear m w) (is_same (sector_on_right m w) p.sector) h in
    let one = and_both (list_any (is_between_stops m w) (uncut cs)) (is_clear m w) two.0 in
    same_both (sector_on_right m w) round p.sector (find_one cs all one.0 one.1) two.1
  where
    find_one : (ds : List CutEdge) → All (IsLed m round) ds → list_any (is_between_stops m (way p.from p.to)) (uncut ds) ≡ true → is_clear m (way p.from p.to) ≡ true
        → is_same (sector_on_right m (way p.from p.to)) round ≡ true
    find_one [] a f c = cc
    find_one (d ∷ ds) a f c =
        ⊎_elim
        (λ k. in_round m round d.edge p d.cuts.items k c (All-head (IsLed m round) d ds a))
        (λ k. find_one ds (All-tail (IsLed m round) d ds a) k c)
        (or_either (is_between_stops m (way p.from p.to) d.edge) (list_any (is_between_stops m (way p.from p.to)) (uncut ds)) f)

    same_both : (o r s : Option ℕ) → is_same o r ≡ true → is_same o s ≡ true → is_same r s ≡ true
    same_both o r s f g = subst (λ (z : Option ℕ). is_same z s ≡ true) (same_is o r f) g

-- so no two parts have different sectors inside
pub not_several : (m : Tables) (round : Option ℕ) (cs : List CutEdge) (es : List PlacedLine) → uncut cs ≡ es → All (IsLed m round) cs → (first second : Part)
    → are_several m es first second ≡ false
not_several m round cs es edges all first second =
    both_and (is_border_part m es first) (is_border_part m es second) (not (is_same first.sector second.sector))
    (λ a b.
    let f = same_is round first.sector (led_one m round cs first all (ap (λ (ls : List PlacedLine). is_border_part m ls first) edges ∙ a)) in
    let g = led_one m round cs second all (ap (λ (ls : List PlacedLine). is_border_part m ls second) edges ∙ b) in
    ap not (subst (λ (z : Option ℕ). is_same z second.sector ≡ true) f g))

-- ---- a part of the border

led_says : (m : Tables) (round : Option ℕ) (e : PlacedLine) (a b : Vertex) → is_led_to m round e a b ≡ true
    → (comes_first e a b ≡ true) × (is_clear m (way a b) ≡ true) × (is_same (sector_on_right m (way a b)) round ≡ true)
led_says m round e a b h =
    let two = and_both (comes_first e a b && is_clear m (way a b)) (is_same (sector_on_right m (way a b)) round) h in
    let one = and_both (comes_first e a b) (is_clear m (way a b)) two.0 in
    (one.0, one.1, two.1)

-- the part of an edge that leads from its start to the first stop
abbrev LeadsFirst : Tables → Option ℕ → PlacedLine → Vertex → Type 0
LeadsFirst m round e to = (is_between_stops m (way e.from to) e ≡ true) × (is_clear m (way e.from to) ≡ true) × (is_same (sector_on_right m (way e.from to)) round ≡ true)

first_stop : (m : Tables) (round : Option ℕ) (e : PlacedLine) (to : Vertex) → is_on e to ≡ true → (is_stop m e to || is_at e.to to) ≡ true
    → is_led_to m round e e.from to ≡ true → LeadsFirst m round e to
first_stop m round e to on stop h =
    let t = led_says m round e e.from to h in
    let start = or_left (is_at e.from e.from) (is_met m e e.from) (is_at-same e.from e.from refl) in
    let along = both (runs_along (way e.from to) e) (comes_first e e.from to) (both (is_on e e.from) (is_on e to) (on_from e) on) t.0 in (
      both (leads_along (way e.from to) e && is_stop m e e.from) (is_stop m e to || is_at e.to to) (both (leads_along (way e.from to) e) (is_stop m e e.from) along start) stop,
      t.1,
      t.2,
    )

first_part : (m : Tables) (round : Option ℕ) (e : PlacedLine) (ps : List Vertex) → is_led m round e e.from ps ≡ true → (to : Vertex) × LeadsFirst m round e to
first_part m round e [] h = (e.to, first_stop m round e e.to (on_to e) (or_right (is_stop m e e.to) (is_at e.to e.to) (is_at-same e.to e.to refl)) h)
first_part m round e (p ∷ ps) h =
    let two = and_both (is_stop m e p && is_led_to m round e e.from p) (is_led m round e p ps) h in
    let one = and_both (is_stop m e p) (is_led_to m round e e.from p) two.0 in
    let first = first_says e e.from p (led_says m round e e.from p one.1).0 in
    (p, first_stop m round e p (stop_on m e e.from p (on_from e) first one.0) (or_left (is_stop m e p) (is_at e.to p) one.0) one.1)

-- there is one, with what is inside
pub has_part : (m : Tables) (round : Option ℕ) (cs : List CutEdge) (es : List PlacedLine) → uncut cs ≡ es → 0 < length cs → All (IsLed m round) cs
    → (p : Part) × (is_border_part m es p ≡ true) × (p.sector ≡ round)
has_part m round [] es edges some all = absurd (omega arith)
has_part m round (c ∷ cs) es edges some all =
    let e = c.edge in
    let f = first_part m round e c.cuts.items (All-head (IsLed m round) c cs all) in
    let leads = f.1 in
    let w = way e.from f.0 in
    let there = or_left (is_between_stops m w e) (list_any (is_between_stops m w) (uncut cs)) leads.0 in
    let part : Part = record { from = e.from; to = f.0; sector = round } in (
      part,
      ap (λ (ls : List PlacedLine). is_border_part m ls part) (sym edges)
          ∙ both (list_any (is_between_stops m w) (e ∷ uncut cs) && is_clear m w) (is_same (sector_on_right m w) round) (both (list_any (is_between_stops m w) (e ∷ uncut cs)) (is_clear m w) there leads.1) leads.2,
      refl,
    )

-- where a part has the void inside, so has the border
pub void_round : (m : Tables) (round : Option ℕ) (cs : List CutEdge) (es : List PlacedLine) → uncut cs ≡ es → All (IsLed m round) cs
    → (p : Part) → is_border_part m es p ≡ true → p.sector ≡ None → round ≡ None
void_round m round cs es edges all p h void =
    same_is round p.sector (led_one m round cs p all (ap (λ (ls : List PlacedLine). is_border_part m ls p) edges ∙ h)) ∙ void
