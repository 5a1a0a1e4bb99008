-- Parts of lines that lie inside an outline.
use Rattle.std.proofs.Common.{◌≡◌, ℕ, ◌<◌, ◌≤◌, Bool, true, false, ◌&&◌, ◌||◌, List, [], ◌∷◌, length, Some, None, refl, sym, ap, subst, ◌∙◌, ◌⊎◌, inl, inr, ⊎_elim, arith}
use Rattle.std.specs.List.{list_any, slice_get}
use Rattle.std.proofs.lemmas.Bool.{cases_Bool, false≢true}
use Rattle.std.proofs.lemmas.Int.{by_lt_z}
use Rattle.std.proofs.lemmas.Option.{slice_get_within}
use Rattle.std.specs.Prelude.{pos, ◌<ℤ◌, ◌≤ℤ◌}
use Rattle.lump_records.proofs.Signs.{linear}
use Rattle.lump_records.specs.declared.records.Vertex.{Vertex}
use Rattle.map_plane.proofs.CrossingPoints.{length_positive}
use Rattle.map_plane.proofs.LineReads.{length-placed_lines}
use Rattle.map_plane.proofs.Means.{at_is, is_at-same}
use Rattle.map_plane.proofs.Tests.{and_both, both, or_either, or_left, or_right}
use Rattle.map_plane.specs.Meeting.{is_at, is_on}
use Rattle.map_plane.specs.Places.{placed_lines}
use Rattle.map_plane.specs.declared.places.PlacedLine.{PlacedLine}
use Rattle.map_tables.specs.Tables.{Tables}
use Rattle.map_areas.proofs.AlongLines.{far, first_says, has_length, in_line, on_from, on_to, one_place, starts_at}
use Rattle.map_areas.proofs.Further.{between_far, between_on, equal, first_is}
use Rattle.map_areas.specs.Cuts.{AreCutsOf, are_cuts, holds_part}
use Rattle.map_areas.specs.Inside.{HasPartInside, IsPartInside, holds_middle, is_border_stop, is_line_stop, leads_on}
use Rattle.map_areas.specs.Stops.{comes_first}
use Rattle.map_areas.specs.Ways.{is_between}

-- ---- the cuts of a line

-- each of them is at least as far along it as the first one
pub none_behind : (l : PlacedLine) (a : Vertex) (ps : List Vertex) → are_cuts l a ps ≡ true → (v : Vertex) → list_any (is_at v) ps ≡ true → far l a <ℤ far l v
none_behind l a [] cuts v h = cc
none_behind l a (p ∷ ps) cuts v h =
    let two = and_both (is_between l p && comes_first l a p) (are_cuts l p ps) cuts in
    let ap' = first_says l a p (and_both (is_between l p) (comes_first l a p) two.0).1 in
    ⊎_elim
    (λ k. let e : far l v ≡ far l p = ap (λ (z : Vertex). far l z) (at_is v p k) in omega (arith, linear))
    (λ k. let r = none_behind l p ps two.1 v k in omega (arith, linear))
    (or_either (is_at v p) (list_any (is_at v) ps) h)

module _ (m : Tables) (es ds : List PlacedLine) (l : PlacedLine) where
  abbrev Stops : Vertex → Type 0
  Stops v = is_line_stop m es l v ≡ true

  -- each stop behind a place is among the cuts that are left, or where the line ends
  abbrev HasAll : Vertex → List Vertex → Type 0
  HasAll a ps = (v : Vertex) → Stops v → far l a <ℤ far l v → (list_any (is_at v) ps ≡ true) ⊎ (v ≡ l.to)

  -- each cut that is left is a stop
  abbrev AreStops : List Vertex → Type 0
  AreStops ps = (v : Vertex) → list_any (is_at v) ps ≡ true → Stops v

  all_behind : (a p : Vertex) (ps : List Vertex) → far l a <ℤ far l p → HasAll a (p ∷ ps) → HasAll p ps
  all_behind a p ps lt all v s h =
      ⊎_elim
      (λ k. ⊎_elim
      (λ at. let e : far l v ≡ far l p = ap (λ (z : Vertex). far l z) (at_is v p at) in absurd (omega (arith, linear)))
      (λ there. inl there)
      (or_either (is_at v p) (list_any (is_at v) ps) k))
      (λ end. inr end)
      (all v s (omega (arith, linear)))

  stops_behind : (p : Vertex) (ps : List Vertex) → AreStops (p ∷ ps) → AreStops ps
  stops_behind p ps all v h = all v (or_right (is_at v p) (list_any (is_at v) ps) h)

  stop_here : (p : Vertex) (ps : List Vertex) → AreStops (p ∷ ps) → Stops p
  stop_here p ps all = all p (or_left (is_at p p) (list_any (is_at p) ps) (is_at-same p p refl))

  -- what a stop is
  cases : (v : Vertex) → Stops v → (l.from ≡ v) ⊎ ((l.to ≡ v) ⊎ ((is_between l v && is_border_stop m es v) ≡ true))
  cases v s =
      ⊎_elim
      (λ h. ⊎_elim (λ k. inl (at_is l.from v k)) (λ k. inr (inl (at_is l.to v k))) (or_either (is_at l.from v) (is_at l.to v) h))
      (λ h. inr (inr h))
      (or_either (is_at l.from v || is_at l.to v) (is_between l v && is_border_stop m es v) s)

  starts : Stops l.from
  starts = or_left (is_at l.from l.from || is_at l.to l.from) (is_between l l.from && is_border_stop m es l.from) (or_left (is_at l.from l.from) (is_at l.to l.from) (is_at-same l.from l.from refl))

  ends : Stops l.to
  ends = or_left (is_at l.from l.to || is_at l.to l.to) (is_between l l.to && is_border_stop m es l.to) (or_right (is_at l.from l.to) (is_at l.to l.to) (is_at-same l.to l.to refl))

  is_inner : (v : Vertex) → (is_between l v && is_border_stop m es v) ≡ true → Stops v
  is_inner v h = or_right (is_at l.from v || is_at l.to v) (is_between l v && is_border_stop m es v) h

  stop_on : (v : Vertex) → Stops v → is_on l v ≡ true
  stop_on v s =
      ⊎_elim
      (λ e. ap (λ (z : Vertex). is_on l z) (sym e) ∙ on_from l)
      (λ h. ⊎_elim
      (λ e. ap (λ (z : Vertex). is_on l z) (sym e) ∙ on_to l)
      (λ k. between_on l v (and_both (is_between l v) (is_border_stop m es v) k).0) h)
      (cases v s)

  -- ---- a part that lies inside is tried

  module _ (a b : Vertex) (sa : Stops a) (sb : Stops b) (ab : far l a <ℤ far l b)
      (none : (p : Vertex) → Stops p → comes_first l a p ≡ true → comes_first l p b ≡ true → ⊥) (inside : holds_middle ds a b ≡ true) where
    long : pos 0 <ℤ far l l.to
    long = has_length l a b ab

    same : (u v : Vertex) → is_on l u ≡ true → is_on l v ≡ true → far l u ≤ℤ far l v → far l v ≤ℤ far l u → u ≡ v
    same u v ou ov h k = one_place l u v long ou ov (equal (far l u) (far l v) h k)

    b_in : far l b ≤ℤ far l l.to
    b_in = (in_line l b (stop_on b sb)).1

    part_tried : (at : Vertex) (ps : List Vertex) → is_on l at ≡ true → are_cuts l at ps ≡ true → AreStops ps → HasAll at ps → far l at ≤ℤ far l a
        → holds_part ds l at ps ≡ false → ⊥
    part_tried at [] oat cuts stops all here out =
        let start : at ≡ a = by_lt_z (far l at) (far l a)
        (λ lt. ⊎_elim (λ k. cc) (λ k. let e : far l a ≡ far l l.to = ap (λ (z : Vertex). far l z) k in let high = b_in in absurd (omega (arith, linear))) (all a sa lt))
        (λ ge. same at a oat (stop_on a sa) here ge) in
        let end : b ≡ l.to = ⊎_elim (λ k. cc) (λ k. k) (all b sb (omega (arith, linear))) in
        false≢true (sym out ∙ (λ i. holds_middle ds (start i) (sym end i)) ∙ inside)
    part_tried at (p ∷ ps) oat cuts stops all here out =
        let two = and_both (is_between l p && comes_first l at p) (are_cuts l p ps) cuts in
        let one = and_both (is_between l p) (comes_first l at p) two.0 in
        let lt = first_says l at p one.1 in
        let op = between_on l p one.0 in
        let p_in = (in_line l p op).1 in
        let no = neither (holds_middle ds at p) (holds_part ds l p ps) out in
        by_lt_z (far l a) (far l p)
        (λ before.
        let start : at ≡ a = by_lt_z (far l at) (far l a)
        (λ k. ⊎_elim
        (λ there. let r = at_least p ps two.1 a there in absurd (omega (arith, linear)))
        (λ end. let e : far l a ≡ far l l.to = ap (λ (z : Vertex). far l z) end in let high = b_in in absurd (omega (arith, linear)))
        (all a sa k))
        (λ ge. same at a oat (stop_on a sa) here ge) in
        let not_past : far l b ≤ℤ far l p = by_lt_z (far l p) (far l b)
        (λ k. absurd (none p (stop_here p ps stops) (first_is l a p before) (first_is l p b k))) (λ ge. ge) in
        let end : p ≡ b = ⊎_elim
        (λ there. let r = at_least p ps two.1 b there in same p b op (stop_on b sb) r not_past)
        (λ last. let e : far l b ≡ far l l.to = ap (λ (z : Vertex). far l z) last in same p b op (stop_on b sb) (omega (arith, linear)) not_past)
        (all b sb (omega (arith, linear))) in
        false≢true (sym no.0 ∙ (λ i. holds_middle ds (start i) (end i)) ∙ inside))
        (λ behind. part_tried p ps op two.1 (stops_behind p ps stops) (all_behind at p ps lt all) behind no.1)
      where
        neither : (x y : Bool) → (x || y) ≡ false → (x ≡ false) × (y ≡ false)
        neither true y h = cc
        neither false y h = (refl, h)

        at_least : (q : Vertex) (qs : List Vertex) → are_cuts l q qs ≡ true → (v : Vertex) → list_any (is_at v) (q ∷ qs) ≡ true → far l q ≤ℤ far l v
        at_least q qs cuts' v h =
            ⊎_elim
            (λ k. let e : far l v ≡ far l q = ap (λ (z : Vertex). far l z) (at_is v q k) in omega (arith, linear))
            (λ k. let r = none_behind l q qs cuts' v k in omega (arith, linear))
            (or_either (is_at v q) (list_any (is_at v) qs) h)

  -- ---- what is tried is a part

  found_part : (at : Vertex) (ps : List Vertex) → Stops at → leads_on l at l.to ≡ true → are_cuts l at ps ≡ true → AreStops ps → HasAll at ps
      → holds_part ds l at ps ≡ true → HasPartInside m es ds l
  found_part at [] sat on cuts stops all h = (
    at,
    l.to,
    record {
      start = sat;
      end = ends;
      along = on;
      none =
          λ p s f g. ⊎_elim (λ k. cc)
          (λ k. let e : far l p ≡ far l l.to = ap (λ (z : Vertex). far l z) k in let lt = first_says l p l.to g in omega (arith, linear))
          (all p s (first_says l at p f));
    },
    h,
  )
  found_part at (p ∷ ps) sat on cuts stops all h =
      let two = and_both (is_between l p && comes_first l at p) (are_cuts l p ps) cuts in
      let one = and_both (is_between l p) (comes_first l at p) two.0 in
      let lt = first_says l at p one.1 in
      let far_p = between_far l p one.0 in
      ⊎_elim
      (λ k. (
        at,
        p,
        record {
          start = sat;
          end = stop_here p ps stops;
          along = or_left (comes_first l at p) (is_at l.from l.to && is_at l.from at && is_at l.to p) one.1;
          none =
              λ q s f g.
              let before = first_says l q p g in
              ⊎_elim
              (λ there. ⊎_elim
              (λ r. let e : far l q ≡ far l p = ap (λ (z : Vertex). far l z) (at_is q p r) in omega (arith, linear))
              (λ r. let w = none_behind l p ps two.1 q r in omega (arith, linear))
              (or_either (is_at q p) (list_any (is_at q) ps) there))
              (λ end. let e : far l q ≡ far l l.to = ap (λ (z : Vertex). far l z) end in let w = far_p.1 in omega (arith, linear))
              (all q s (first_says l at q f));
        },
        k,
      ))
      (λ k. found_part p ps (stop_here p ps stops) (or_left (comes_first l p l.to) (is_at l.from l.to && is_at l.from p && is_at l.to l.to) (first_is l p l.to far_p.1)) two.1
      (stops_behind p ps stops) (all_behind at p ps lt all) k)
      (or_either (holds_middle ds at p) (holds_part ds l p ps) h)

  -- ---- from the start of the line

  module _ (stops cuts : List Vertex) (are : AreCutsOf l stops cuts) (border : (p : Vertex) → list_any (is_at p) stops ≡ is_border_stop m es p) where
    those : (p : Vertex) → list_any (is_at p) cuts ≡ (is_between l p && is_border_stop m es p)
    those p = are.those p ∙ ap (λ t. is_between l p && t) (border p)

    cuts_stop : AreStops cuts
    cuts_stop v h = is_inner v (sym (those v) ∙ h)

    cuts_all : HasAll l.from cuts
    cuts_all v s lt =
        ⊎_elim
        (λ e. let same : far l v ≡ far l l.from = ap (λ (z : Vertex). far l z) (sym e) in absurd (omega (arith, linear)))
        (λ h. ⊎_elim (λ e. inr (sym e)) (λ k. inl (those v ∙ k)) h)
        (cases v s)

    leads_whole : leads_on l l.from l.to ≡ true
    leads_whole =
        ⊎_elim
        (λ h. or_right (comes_first l l.from l.to) (is_at l.from l.to && is_at l.from l.from && is_at l.to l.to)
        (both (is_at l.from l.to && is_at l.from l.from) (is_at l.to l.to) (both (is_at l.from l.to) (is_at l.from l.from) h (is_at-same l.from l.from refl)) (is_at-same l.to l.to refl)))
        (λ h.
        let long = length_positive l.from l.to (λ e. false≢true (sym h ∙ is_at-same l.from l.to e)) in
        let start = starts_at l in
        or_left (comes_first l l.from l.to) (is_at l.from l.to && is_at l.from l.from && is_at l.to l.to) (first_is l l.from l.to (omega (arith, linear))))
        (cases_Bool (is_at l.from l.to))

    pub part_found : holds_part ds l l.from cuts ≡ true → HasPartInside m es ds l
    part_found h = found_part l.from cuts starts leads_whole are.order cuts_stop cuts_all h

    -- a line that has no length has one part
    only_part : (ps : List Vertex) → are_cuts l l.from ps ≡ true → l.from ≡ l.to → holds_part ds l l.from ps ≡ false → holds_middle ds l.from l.to ≡ false
    only_part [] order e h = h
    only_part (p ∷ ps) order e h =
        let two = and_both (is_between l p && comes_first l l.from p) (are_cuts l p ps) order in
        let f = between_far l p (and_both (is_between l p) (comes_first l l.from p) two.0).0 in
        let f0 = f.0 in let f1 = f.1 in
        let same : far l l.from ≡ far l l.to = ap (λ (z : Vertex). far l z) e in
        absurd (omega (arith, linear))

    pub none_found : holds_part ds l l.from cuts ≡ false → HasPartInside m es ds l → ⊥
    none_found out h =
        let a = h.0 in
        let b = h.1 in
        let part = h.2 in
        ⊎_elim
        (λ first.
        let low = (in_line l a (stop_on a part.start)).0 in
        let start = starts_at l in
        part_tried a b part.start part.end (first_says l a b first) part.none h.3 l.from cuts (on_from l) are.order cuts_stop cuts_all (omega (arith, linear)) out)
        (λ whole.
        let two = and_both (is_at l.from l.to && is_at l.from a) (is_at l.to b) whole in
        let one = and_both (is_at l.from l.to) (is_at l.from a) two.0 in
        let f = at_is l.from a one.1 in
        let g = at_is l.to b two.1 in
        false≢true (sym (only_part cuts are.order (at_is l.from l.to one.0) out) ∙ (λ i. holds_middle ds (f i) (g i)) ∙ h.3))
        (or_either (comes_first l a b) (is_at l.from l.to && is_at l.from a && is_at l.to b) part.along)

-- ---- the line with a number

pub tried : (m : Tables) (es ds : List PlacedLine) (n : ℕ) (l : PlacedLine) → slice_get (placed_lines m) n ≡ Some l → (stops cuts : List Vertex) → AreCutsOf l stops cuts
    → ((p : Vertex) → list_any (is_at p) stops ≡ is_border_stop m es p) → (b : Bool) → b ≡ holds_part ds l l.from cuts
    → (b ≡ true → IsPartInside m es ds n) × (IsPartInside m es ds n → b ≡ true)
tried m es ds n l is stops cuts are border b same = (
  λ t. (l, is, part_found m es ds l stops cuts are border (sym same ∙ t)),
  λ h.
      let one : h.0 ≡ l = some_one h.0 l (sym h.1 ∙ is) in
      ⊎_elim (λ t. t) (λ f. absurd (none_found m es ds l stops cuts are border (sym same ∙ f) (subst (λ (k : PlacedLine). HasPartInside m es ds k) one h.2))) (cases_Bool b),
)
  where
    some_one : (x y : PlacedLine) → Some x ≡ Some y → x ≡ y
    some_one x y e = cc

pub untried : (m : Tables) (es ds : List PlacedLine) (n : ℕ) → slice_get (placed_lines m) n ≡ None
    → (false ≡ true → IsPartInside m es ds n) × (IsPartInside m es ds n → false ≡ true)
untried m es ds n none = (λ t. cc, λ h. absurd (no_one h.0 (sym none ∙ h.1)))
  where
    no_one : (x : PlacedLine) → None ≡ Some x → ⊥
    no_one x e = cc

-- no line at all
pub inside_all : (m : Tables) (es ds : List PlacedLine) (n : ℕ) → length m.lines ≤ n → ((k : ℕ) → k < n → IsPartInside m es ds k → ⊥) → (k : ℕ) → IsPartInside m es ds k → ⊥
inside_all m es ds n le none k h =
    let within : k < length (placed_lines m) = slice_get_within (placed_lines m) k h.0 h.1 in
    let size : length (placed_lines m) ≡ length m.lines = length-placed_lines m in
    none k (omega arith) h
