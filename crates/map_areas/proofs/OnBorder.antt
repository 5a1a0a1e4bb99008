-- Places at which a border stops lie on its edges, and in range.
use Rattle.std.proofs.Common.{◌≡◌, ℕ, ◌+◌, ◌<◌, ◌≤◌, All, Bool, true, false, ◌&&◌, ◌||◌, List, [], ◌∷◌, length, get_or, map, reverse, drop, zero, suc, Option, Some, None, refl, sym, ap, ◌∙◌, ⊎_elim, subst, arith}
use Rattle.std.specs.List.{enumerate_from, list_any, slice_get}
use Rattle.std.specs.Prelude.{ℤ, ◌≤ℤ◌, if◌then◌else◌, int_le, unwrap_or}
use Rattle.std.specs.Option.{option_map, option_or}
use Rattle.std.proofs.lemmas.List.{drop_all, drop_more}
use Rattle.std.proofs.lemmas.List.Elements.{All-cons, All-head, All-nil, All-tail}
use Rattle.std.proofs.lemmas.List.Sorted.{All-permutation, IsPermutation-reverse}
use Rattle.std.proofs.lemmas.Option.{get_or_from_slice_get, slice_get-get_or, slice_get_within}
use Rattle.lump_records.proofs.Signs.{linear}
use Rattle.lump_records.specs.declared.records.Vertex.{Vertex}
use Rattle.map_plane.proofs.Means.{at_is, is_at-same}
use Rattle.map_plane.proofs.Tests.{and_both, le_says, or_either}
use Rattle.map_plane.specs.Meeting.{is_at, is_on, is_under, spans_meet}
use Rattle.map_plane.specs.Places.{placed_lines}
use Rattle.map_plane.specs.declared.places.PlacedLine.{PlacedLine}
use Rattle.map_tables.specs.Ranges.{IsVertex}
use Rattle.map_tables.specs.Tables.{Tables}
use Rattle.map_areas.specs.Bordered.{is_led, is_led_to}
use Rattle.map_areas.specs.Cuts.{AreCutsOf, IsLed, uncut}
use Rattle.map_areas.specs.Drawings.{IsCutOnBorder, IsOnBorder}
use Rattle.map_areas.specs.Inside.{is_border_stop}
use Rattle.map_areas.specs.Outlines.{edge_from, edges_round, next_corner, outline_edges, runs_clockwise}
use Rattle.map_areas.specs.Stops.{comes_first, crosses_at, is_stop}
use Rattle.map_areas.specs.Ways.{is_between, is_clear, is_same, sector_on_right, way}
use Rattle.map_areas.specs.declared.border.CutEdge.{CutEdge}
use Rattle.map_areas.proofs.AlongLines.{far, first_says, on_from, on_to, spans_says}
use Rattle.map_areas.proofs.Further.{between_on}
use Rattle.map_areas.proofs.Walled.{passes_at, which_passes}

-- the ends of an edge are in range
pub record AreEndsInRange (e : PlacedLine) : Type 0 where
  pub from : IsVertex e.from
  pub to : IsVertex e.to

-- ---- a place on an edge

low : (l a b p : ℤ) → l ≤ℤ a → l ≤ℤ b → spans_meet a b p p ≡ true → l ≤ℤ p
unfolding spans_meet is_under
low l a b p la lb h =
    ⊎_elim
    (λ k. ⊎_elim (λ j. ⊎_elim (λ i. past a la i) (λ i. past a la i) (or_either (int_le a p) (int_le a p) j)) (λ j. past b lb j) (or_either (int_le a p || int_le a p) (int_le b p) k))
    (λ k. past b lb k)
    (or_either (int_le a p || int_le a p || int_le b p) (int_le b p) (and_both (int_le a p || int_le a p || int_le b p || int_le b p) _ h).0)
  where
    past : (c : ℤ) → l ≤ℤ c → int_le c p ≡ true → l ≤ℤ p
    past c lc cp = let le = le_says c p cp in omega (arith, linear)

high : (l a b p : ℤ) → a ≤ℤ l → b ≤ℤ l → spans_meet a b p p ≡ true → p ≤ℤ l
unfolding spans_meet is_under
high l a b p al bl h =
    ⊎_elim
    (λ k. ⊎_elim (λ j. ⊎_elim (λ i. past a al i) (λ i. past b bl i) (or_either (int_le p a) (int_le p b) j)) (λ j. past a al j) (or_either (int_le p a || int_le p b) (int_le p a) k))
    (λ k. past b bl k)
    (or_either (int_le p a || int_le p b || int_le p a) (int_le p b) (and_both _ (int_le p a || int_le p b || int_le p a || int_le p b) h).1)
  where
    past : (c : ℤ) → c ≤ℤ l → int_le p c ≡ true → p ≤ℤ l
    past c cl pc = let le = le_says p c pc in omega (arith, linear)

on_in_range : (e : PlacedLine) (p : Vertex) → AreEndsInRange e → is_on e p ≡ true → IsVertex p
on_in_range e p r h =
    let spans = spans_says e p h in
    record {
      x_low = low _ e.from.x e.to.x p.x r.from.x_low r.to.x_low spans.0;
      x_high = high _ e.from.x e.to.x p.x r.from.x_high r.to.x_high spans.0;
      y_low = low _ e.from.y e.to.y p.y r.from.y_low r.to.y_low spans.1;
      y_high = high _ e.from.y e.to.y p.y r.from.y_high r.to.y_high spans.1;
    }

-- a stop of an edge lies on it
stop_there : (m : Tables) (e : PlacedLine) (p : Vertex) → is_stop m e p ≡ true → is_on e p ≡ true
stop_there m e p h =
    ⊎_elim
    (λ a. subst (λ (v : Vertex). is_on e v ≡ true) (at_is e.from p a) (on_from e))
    (λ b. between_on e p (and_both (is_between e p) (list_any (is_at p) m.vertices || list_any (crosses_at e p) (placed_lines m)) b).0)
    (or_either (is_at e.from p) (is_between e p && (list_any (is_at p) m.vertices || list_any (crosses_at e p) (placed_lines m))) h)

at_item : {X : Type 0} (P : X → Type 0) (xs : List X) (n : ℕ) (x : X) → All P xs → slice_get xs n ≡ Some x → P x
at_item P xs n x all is = subst P (get_or_from_slice_get xs n x x is) (all n x (slice_get_within xs n x is))

on_border : (es : List PlacedLine) (n : ℕ) (e : PlacedLine) (p : Vertex) → All AreEndsInRange es → slice_get es n ≡ Some e → is_on e p ≡ true → IsOnBorder es p
on_border es n e p range is h = record {
  range = on_in_range e p (at_item AreEndsInRange es n e range is) h;
  outline = passes_at (λ (l : PlacedLine). is_on l p) es n e is h;
}

-- the stops of a border
pub stops_on : (m : Tables) (es : List PlacedLine) (stops : List Vertex) → All AreEndsInRange es
    → ((p : Vertex) → list_any (is_at p) stops ≡ is_border_stop m es p) → All (IsOnBorder es) stops
stops_on m es stops range those k d lt =
    let p = get_or stops k d in
    let here : list_any (is_at p) stops ≡ true = passes_at (is_at p) stops k p (slice_get-get_or stops k d lt) (is_at-same p p refl) in
    let found = which_passes (λ (e : PlacedLine). is_stop m e p) es (sym (those p) ∙ here) in
    on_border es found.0 found.1 p range found.2 (stop_there m found.1 p found.3)

-- those of other places that lie on a line
pub cuts_on : (es : List PlacedLine) (l : PlacedLine) (stops cuts : List Vertex) → AreCutsOf l stops cuts → All (IsOnBorder es) stops → All (IsOnBorder es) cuts
cuts_on es l stops cuts of all k d lt =
    let p = get_or cuts k d in
    let here : list_any (is_at p) cuts ≡ true = passes_at (is_at p) cuts k p (slice_get-get_or cuts k d lt) (is_at-same p p refl) in
    let there = and_both (is_between l p) (list_any (is_at p) stops) (sym (of.those p) ∙ here) in
    let found = which_passes (is_at p) stops there.1 in
    subst (IsOnBorder es) (sym (at_is p found.1 found.3)) (at_item (IsOnBorder es) stops found.0 found.1 all found.2)

-- ---- cut edges

led_on : (m : Tables) (round : Option ℕ) (es : List PlacedLine) (n : ℕ) (e : PlacedLine) → All AreEndsInRange es → slice_get es n ≡ Some e → (from : Vertex) (ps : List Vertex)
    → is_led m round e from ps ≡ true → All (IsOnBorder es) ps
led_on m round es n e range is from [] h = All-nil (IsOnBorder es)
led_on m round es n e range is from (p ∷ ps) h =
    let two = and_both (is_stop m e p && is_led_to m round e from p) (is_led m round e p ps) h in
    let stop = (and_both (is_stop m e p) (is_led_to m round e from p) two.0).0 in
    All-cons (IsOnBorder es) p ps (on_border es n e p range is (stop_there m e p stop)) (led_on m round es n e range is p ps two.1)

-- each edge that leads through one sector alone, from stop to stop
pub edges_on : (m : Tables) (round : Option ℕ) (cs : List CutEdge) (es : List PlacedLine) → uncut cs ≡ es → All AreEndsInRange es → All (IsLed m round) cs
    → All (IsCutOnBorder es) cs
edges_on m round cs es same range led k d lt =
    let c = get_or cs k d in
    let is : slice_get es k ≡ Some c.edge = ap (λ (ls : List PlacedLine). slice_get ls k) (sym same) ∙ edge_at cs k c (slice_get-get_or cs k d lt) in
    record {
      from = on_border es k c.edge c.edge.from range is (on_from c.edge);
      to = on_border es k c.edge c.edge.to range is (on_to c.edge);
      cuts = led_on m round es k c.edge range is c.edge.from c.cuts.items (led k d lt);
    }
  where
    edge_at : (xs : List CutEdge) (n : ℕ) (x : CutEdge) → slice_get xs n ≡ Some x → slice_get (uncut xs) n ≡ Some x.edge
    edge_at [] n x at = cc
    edge_at (y ∷ ys) zero x at = ap (option_map (λ (z : CutEdge). z.edge)) at
    edge_at (y ∷ ys) (suc n) x at = edge_at ys n x at

-- ---- the edges of corners in range

next_in_range : (cs : List Vertex) (n : ℕ) (c : Vertex) → All IsVertex cs → IsVertex c → IsVertex (next_corner cs (n, c))
next_in_range cs n c all own = by (slice_get cs (n + 1)) (slice_get cs 0) (λ v is. at_item IsVertex cs (n + 1) v all is) (λ v is. at_item IsVertex cs 0 v all is)
  where
    by : (o p : Option Vertex) → ((v : Vertex) → o ≡ Some v → IsVertex v) → ((v : Vertex) → p ≡ Some v → IsVertex v) → IsVertex (unwrap_or (option_or o p) c)
    by (Some v) p f g = f v refl
    by None (Some v) f g = g v refl
    by None None f g = own

numbered : (all cs : List Vertex) (n : ℕ) → All IsVertex all → All IsVertex cs → All AreEndsInRange (map (edge_from all) (enumerate_from n cs))
numbered all [] n h k = All-nil AreEndsInRange
numbered all (c ∷ cs) n h k =
    All-cons AreEndsInRange (edge_from all (n, c)) (map (edge_from all) (enumerate_from (n + 1) cs))
    (record { from = All-head IsVertex c cs k; to = next_in_range all n c h (All-head IsVertex c cs k) })
    (numbered all cs (n + 1) h (All-tail IsVertex c cs k))

pub round_in_range : (cs : List Vertex) → All IsVertex cs → All AreEndsInRange (edges_round true cs)
round_in_range cs h = by (runs_clockwise (outline_edges cs))
  where
    turned : All IsVertex (reverse cs)
    turned = All-permutation IsVertex cs (reverse cs) (IsPermutation-reverse cs) h

    by : (t : Bool) → All AreEndsInRange (if t then outline_edges cs else outline_edges (reverse cs))
    by true = numbered cs cs 0 h h
    by false = numbered (reverse cs) (reverse cs) 0 turned turned

-- ---- what is left of an edge

-- a place that comes before another one along a line is another place
pub first_apart : (l : PlacedLine) (a b : Vertex) → comes_first l a b ≡ true → is_at a b ≡ false
first_apart l a b h = by (is_at a b) (λ e. at_is a b e)
  where
    by : (t : Bool) → (t ≡ true → a ≡ b) → t ≡ false
    by true k = let lt = first_says l a b h in let same : far l a ≡ far l b = ap (far l) (k refl) in absurd (omega (arith, linear))
    by false k = refl

led_apart : (m : Tables) (round : Option ℕ) (e : PlacedLine) (a b : Vertex) → is_led_to m round e a b ≡ true → is_at a b ≡ false
led_apart m round e a b h =
    first_apart e a b
    (and_both (comes_first e a b) (is_clear m (way a b)) (and_both (comes_first e a b && is_clear m (way a b)) (is_same (sector_on_right m (way a b)) round) h).0).0

-- the next part of an edge that leads through one sector alone, and what is left behind it
pub led_next : (m : Tables) (round : Option ℕ) (e : PlacedLine) (from : Vertex) (ps : List Vertex) (i : ℕ) (d : Vertex) → i < length ps
    → is_led m round e from (drop i ps) ≡ true → (is_at from (get_or ps i d) ≡ false) × (is_led m round e (get_or ps i d) (drop (i + 1) ps) ≡ true)
led_next m round e from ps i d lt h =
    let p = get_or ps i d in
    let two = and_both (is_stop m e p && is_led_to m round e from p) (is_led m round e p (drop (i + 1) ps)) (ap (is_led m round e from) (sym (drop_more ps i d lt)) ∙ h) in
    (led_apart m round e from p (and_both (is_stop m e p) (is_led_to m round e from p) two.0).1, two.1)

-- its last part
pub led_last : (m : Tables) (round : Option ℕ) (e : PlacedLine) (from : Vertex) (ps : List Vertex) (i : ℕ) → length ps ≤ i
    → is_led m round e from (drop i ps) ≡ true → is_at from e.to ≡ false
led_last m round e from ps i le h = led_apart m round e from e.to (ap (is_led m round e from) (sym (drop_all i ps le)) ∙ h)

-- ---- what is on the right of its parts

led_same : (m : Tables) (round : Option ℕ) (e : PlacedLine) (from to : Vertex) → is_led_to m round e from to ≡ true → is_same (sector_on_right m (way from to)) round ≡ true
led_same m round e from to h =
    (and_both (comes_first e from to && is_clear m (way from to)) (is_same (sector_on_right m (way from to)) round) h).1

-- its next part
pub same_next : (m : Tables) (round : Option ℕ) (e : PlacedLine) (from : Vertex) (ps : List Vertex) (i : ℕ) (d : Vertex) → i < length ps
    → is_led m round e from (drop i ps) ≡ true → is_same (sector_on_right m (way from (get_or ps i d))) round ≡ true
same_next m round e from ps i d lt h =
    let p = get_or ps i d in
    let two = and_both (is_stop m e p && is_led_to m round e from p) (is_led m round e p (drop (i + 1) ps)) (ap (is_led m round e from) (sym (drop_more ps i d lt)) ∙ h) in
    led_same m round e from p (and_both (is_stop m e p) (is_led_to m round e from p) two.0).1

-- its last part
pub same_last : (m : Tables) (round : Option ℕ) (e : PlacedLine) (from : Vertex) (ps : List Vertex) (i : ℕ) → length ps ≤ i
    → is_led m round e from (drop i ps) ≡ true → is_same (sector_on_right m (way from e.to)) round ≡ true
same_last m round e from ps i le h = led_same m round e from e.to (ap (is_led m round e from) (sym (drop_all i ps le)) ∙ h)
