-- The rest of a cut edge from a stop on: its parts lead from stop to stop, and meet nothing between.
use Rattle.std.proofs.Common.{◌≡◌, ℕ, ◌<◌, true, false, ◌&&◌, ◌||◌, not, List, [], ◌∷◌, get_or, length, Option, Some, refl, sym, ap, ◌∙◌, ⊎_elim, arith}
use Rattle.std.proofs.lemmas.Bool.{cases_Bool, false≢true}
use Rattle.std.proofs.lemmas.List.{get_or-map, length-map}
use Rattle.std.proofs.lemmas.List.Folds.{Any-from_list_any, list_any_at}
use Rattle.std.proofs.lemmas.Option.{slice_get-get_or}
use Rattle.std.specs.List.{list_any, slice_get}
use Rattle.std.specs.Prelude.{unwrap_or, ◌<ℤ◌}
use Rattle.lump_records.proofs.Signs.{linear}
use Rattle.lump_records.specs.declared.records.Vertex.{Vertex}
use Rattle.map_plane.proofs.CrossingPoints.{length_positive}
use Rattle.map_plane.proofs.Means.{at_is, is_at-same}
use Rattle.map_plane.proofs.Tests.{and_both, both, or_either, or_left, or_right}
use Rattle.map_plane.specs.Meeting.{is_at, is_on}
use Rattle.map_plane.specs.Places.{placed_lines}
use Rattle.map_plane.specs.declared.places.PlacedLine.{PlacedLine}
use Rattle.map_tables.specs.Tables.{Tables}
use Rattle.map_areas.proofs.AlongLines.{far, first_says, on_from, on_to, starts_at}
use Rattle.map_areas.proofs.Between.{crossed_within, crosses_too, place_within}
use Rattle.map_areas.proofs.Cutting.{crossing_between}
use Rattle.map_areas.proofs.Further.{between_far, between_on, first_is}
use Rattle.map_areas.proofs.InParts.{none_behind}
use Rattle.map_areas.proofs.Led.{same_is}
use Rattle.map_areas.proofs.Standing.{same_itself}
use Rattle.map_areas.specs.Cuts.{DiffersFrom, IsCutWhole, are_cuts, is_edge_part, leads_unmet, uncut}
use Rattle.map_areas.specs.Refusals.{CrossesBetween, IsAreaRefusal, is_border_part}
use Rattle.map_areas.specs.Stops.{comes_first, crosses_at, is_between_stops, is_met, is_stop, leads_along}
use Rattle.map_areas.specs.Ways.{crosses_way, is_between, is_clear, is_same, runs_along, sector_on_right, way}
use Rattle.map_areas.specs.declared.border.CutEdge.{CutEdge}
use Rattle.map_areas.specs.declared.error.AreaError.{AreaError}
use Rattle.map_areas.specs.declared.error.AreaError.TheVariants.{Crossing, NotAPolygon, NotEmpty, OutOfMemory, OutOfRange, OverVertex, Refused, SeveralSectors}
use Rattle.map_areas.specs.declared.error.Part.{Part}

-- an edge crosses lines at whole places alone
abbrev pub CrossesWhole : Tables → PlacedLine → Type 0
CrossesWhole m e = (n : ℕ) → CrossesBetween (placed_lines m) e n → ⊥

-- ---- a way along an edge on which nothing meets the edge

module _ (m : Tables) (e : PlacedLine) (whole : CrossesWhole m e) (a b : Vertex) (oa : is_on e a ≡ true) (ob : is_on e b ≡ true) (ab : far e a <ℤ far e b)
    (none : (v : Vertex) → is_met m e v ≡ true → far e a <ℤ far e v → far e v <ℤ far e b → ⊥) where
  no_vertex : list_any (is_between (way a b)) m.vertices ≡ true → ⊥
  no_vertex h =
      let any = Any-from_list_any (is_between (way a b)) m.vertices h in
      let v = any.1 in
      let in_it = place_within e a b oa ob ab v any.4 in
      let there = list_any_at (is_at v) m.vertices any.0 v any.2 (is_at-same v _ (sym any.3)) in
      none v
      (both (is_between e v) (list_any (is_at v) m.vertices || list_any (crosses_at e v) (placed_lines m)) in_it.0
      (or_left (list_any (is_at v) m.vertices) (list_any (crosses_at e v) (placed_lines m)) there))
      in_it.1 in_it.2

  no_line : list_any (crosses_way (way a b)) (placed_lines m) ≡ true → ⊥
  no_line h =
      let any = Any-from_list_any (crosses_way (way a b)) (placed_lines m) h in
      let l = any.1 in
      let cross = crosses_too e a b oa ob ab l any.4 in
      whole any.0 (
        l,
        slice_get-get_or (placed_lines m) any.0 l any.2 ∙ ap (λ (k : PlacedLine). Some k) any.3,
        cross,
        λ p.
            ⊎_elim
            (λ t.
            let two = and_both (is_on e p) (is_on l p) t in
            let in_it = crossed_within e a b oa ob ab l any.4 p two.0 two.1 in
            let here = ap (λ (k : PlacedLine). crosses_at e p k) any.3 ∙ both (crosses_way e l) (is_on l p) cross two.1 in
            let there = list_any_at (crosses_at e p) (placed_lines m) any.0 l any.2 here in
            absurd (none p
            (both (is_between e p) (list_any (is_at p) m.vertices || list_any (crosses_at e p) (placed_lines m)) (crossing_between e l cross p two.0 two.1)
            (or_right (list_any (is_at p) m.vertices) (list_any (crosses_at e p) (placed_lines m)) there))
            in_it.0 in_it.1))
            (λ f. f)
            (cases_Bool (is_on e p && is_on l p)),
      )

  clear : is_clear m (way a b) ≡ true
  clear =
      both (not (list_any (is_between (way a b)) m.vertices)) (not (list_any (crosses_way (way a b)) (placed_lines m)))
      (ap not (⊎_elim (λ t. absurd (no_vertex t)) (λ f. f) (cases_Bool (list_any (is_between (way a b)) m.vertices))))
      (ap not (⊎_elim (λ t. absurd (no_line t)) (λ f. f) (cases_Bool (list_any (crosses_way (way a b)) (placed_lines m)))))

  unmet : is_stop m e a ≡ true → (is_stop m e b || is_at e.to b) ≡ true → leads_unmet m e (way a b) ≡ true
  unmet start end =
      let along = both (runs_along (way a b) e) (comes_first e a b) (both (is_on e a) (is_on e b) oa ob) (first_is e a b ab) in
      both (is_between_stops m (way a b) e) (is_clear m (way a b))
      (both (leads_along (way a b) e && is_stop m e a) (is_stop m e b || is_at e.to b) (both (leads_along (way a b) e) (is_stop m e a) along start) end) clear

-- ---- the rest of an edge

-- the edge stops at a place, and is cut behind it at these places, in order, where something meets it
pub record IsRest (m : Tables) (e : PlacedLine) (at : Vertex) (ps : List Vertex) : Type 0 where
  pub start : is_stop m e at ≡ true
  pub on : is_on e at ≡ true
  pub ahead : far e at <ℤ far e e.to
  pub order : are_cuts e at ps ≡ true
  pub stops : (v : Vertex) → list_any (is_at v) ps ≡ true → is_met m e v ≡ true
  pub all : (v : Vertex) → is_met m e v ≡ true → far e at <ℤ far e v → list_any (is_at v) ps ≡ true

pub whole_rest : (m : Tables) (c : CutEdge) → IsCutWhole m c → IsRest m c.edge c.edge.from c.cuts.items
whole_rest m c w =
    let e = c.edge in
    record {
      start = or_left (is_at e.from e.from) (is_met m e e.from) (is_at-same e.from e.from refl);
      on = on_from e;
      ahead =
          let long = length_positive e.from e.to (λ h. false≢true (sym w.long ∙ is_at-same e.from e.to h)) in
          let zero = starts_at e in
          omega (arith, linear);
      order = w.order;
      stops = λ v h. sym (w.met v) ∙ h;
      all = λ v h lt. w.met v ∙ h;
    }

module _ (m : Tables) (e : PlacedLine) (at p : Vertex) (ps : List Vertex) (r : IsRest m e at (p ∷ ps)) where
  here : (is_between e p ≡ true) × (far e at <ℤ far e p)
  here =
      let two = and_both (is_between e p && comes_first e at p) (are_cuts e p ps) r.order in
      let one = and_both (is_between e p) (comes_first e at p) two.0 in
      (one.0, first_says e at p one.1)

  order : are_cuts e p ps ≡ true
  order = (and_both (is_between e p && comes_first e at p) (are_cuts e p ps) r.order).1

  -- the next cut is a stop
  stop : is_stop m e p ≡ true
  stop = or_right (is_at e.from p) (is_met m e p) (r.stops p (or_left (is_at p p) (list_any (is_at p) ps) (is_at-same p p refl)))

  pub next_stop : is_stop m e p ≡ true
  next_stop = stop

  pub next_rest : IsRest m e p ps
  next_rest = record {
    start = stop;
    on = between_on e p here.0;
    ahead = (between_far e p here.0).1;
    order = order;
    stops = λ v h. r.stops v (or_right (is_at v p) (list_any (is_at v) ps) h);
    all =
        λ v h lt.
        let before = here.1 in
        ⊎_elim (λ k. let same : far e v ≡ far e p = ap (λ (z : Vertex). far e z) (at_is v p k) in absurd (omega (arith, linear))) (λ k. k)
        (or_either (is_at v p) (list_any (is_at v) ps) (r.all v h (omega (arith, linear))));
  }

  none_before : (v : Vertex) → is_met m e v ≡ true → far e at <ℤ far e v → far e v <ℤ far e p → ⊥
  none_before v h low high =
      ⊎_elim (λ k. let same : far e v ≡ far e p = ap (λ (z : Vertex). far e z) (at_is v p k) in omega (arith, linear))
      (λ k. let behind = none_behind e p ps order v k in omega (arith, linear))
      (or_either (is_at v p) (list_any (is_at v) ps) (r.all v h low))

  -- the part up to it meets nothing
  pub next_unmet : CrossesWhole m e → leads_unmet m e (way at p) ≡ true
  next_unmet whole = unmet m e whole at p r.on (between_on e p here.0) here.1 none_before r.start (or_left (is_stop m e p) (is_at e.to p) stop)

-- so does the last part
pub last_unmet : (m : Tables) (e : PlacedLine) (at : Vertex) → IsRest m e at [] → CrossesWhole m e → leads_unmet m e (way at e.to) ≡ true
last_unmet m e at r whole =
    unmet m e whole at e.to r.on (on_to e) r.ahead (λ v h low high. false≢true (r.all v h low)) r.start
    (or_right (is_stop m e e.to) (is_at e.to e.to) (is_at-same e.to e.to refl))

-- and the first one
pub first_unmet : (m : Tables) (c : CutEdge) → IsCutWhole m c → leads_unmet m c.edge (way c.edge.from (unwrap_or (slice_get c.cuts.items 0) c.edge.to)) ≡ true
first_unmet m c w = by c.cuts.items (whole_rest m c w)
  where
    by : (ps : List Vertex) → IsRest m c.edge c.edge.from ps → leads_unmet m c.edge (way c.edge.from (unwrap_or (slice_get ps 0) c.edge.to)) ≡ true
    by [] r = last_unmet m c.edge c.edge.from r w.whole
    by (p ∷ ps) r = next_unmet m c.edge c.edge.from p ps r w.whole

-- ---- parts of the border

-- a part of an edge is one of the border
pub part_there : (m : Tables) (cs : List CutEdge) (es : List PlacedLine) → uncut cs ≡ es → (i : ℕ) (c : CutEdge) → i < length cs → c ≡ get_or cs i c → (p : Part)
    → is_edge_part m c.edge p ≡ true → is_border_part m es p ≡ true
part_there m cs es edges i c lt is p h =
    let w = way p.from p.to in
    let two = and_both (leads_unmet m c.edge w) (is_same (sector_on_right m w) p.sector) h in
    let one = and_both (is_between_stops m w c.edge) (is_clear m w) two.0 in
    let size = length-map cs (λ (k : CutEdge). k.edge) in
    let there : list_any (is_between_stops m w) es ≡ true =
    ap (λ (ls : List PlacedLine). list_any (is_between_stops m w) ls) (sym edges)
    ∙ list_any_at (is_between_stops m w) (uncut cs) i c.edge (omega (arith, size, lt))
    (ap (λ (l : PlacedLine). is_between_stops m w l) (get_or-map (λ (k : CutEdge). k.edge) cs i c c.edge lt ∙ ap (λ (k : CutEdge). k.edge) (sym is)) ∙ one.0) in
    both (list_any (is_between_stops m w) es && is_clear m w) (is_same (sector_on_right m w) p.sector)
    (both (list_any (is_between_stops m w) es) (is_clear m w) there one.1) two.1

not_same : (o r s : Option ℕ) → r ≡ s → is_same o s ≡ false → not (is_same r o) ≡ true
not_same o r s e h =
    ap not
    (⊎_elim (λ t. absurd (false≢true (sym h ∙ (λ i. is_same (sym (same_is r o t) i) (sym e i)) ∙ same_itself r))) (λ f. f) (cases_Bool (is_same r o)))

-- so two that differ are a reason to refuse it
pub differs_refused : (m : Tables) (es ds : List PlacedLine) (first : Part) (l : PlacedLine) (e : AreaError) → is_border_part m es first ≡ true
    → ((p : Part) → is_edge_part m l p ≡ true → is_border_part m es p ≡ true) → DiffersFrom m first l e → IsAreaRefusal m es ds e
differs_refused m es ds first l OutOfRange part there h = absurd h
differs_refused m es ds first l (NotAPolygon corner) part there h = absurd h
differs_refused m es ds first l (Crossing line near) part there h = absurd h
differs_refused m es ds first l (SeveralSectors one other) part there h =
    both (is_border_part m es one && is_border_part m es other) (not (is_same one.sector other.sector))
    (both (is_border_part m es one) (is_border_part m es other) (ap (λ (p : Part). is_border_part m es p) h.0 ∙ part) (there other h.1))
    (not_same other.sector one.sector first.sector (ap (λ (p : Part). p.sector) h.0) h.2)
differs_refused m es ds first l (NotEmpty line) part there h = absurd h
differs_refused m es ds first l (OverVertex vertex) part there h = absurd h
differs_refused m es ds first l (Refused e) part there h = absurd h
differs_refused m es ds first l OutOfMemory part there h = absurd h
