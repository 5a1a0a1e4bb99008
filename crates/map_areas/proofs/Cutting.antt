-- Where edges are cut: at vertices, and where lines cross them.
use Rattle.std.proofs.Common.{◌≡◌, ℕ, ◌+◌, ◌<◌, All, Bool, true, false, ◌&&◌, ◌||◌, not, List, [], ◌∷◌, ◌++◌, get_or, length, take, Option, Some, None, refl, sym, ap, ◌∙◌, ⊎_elim, arith}
use Rattle.std.specs.List.{list_any, slice_get}
use Rattle.std.specs.Option.{option_map_or}
use Rattle.std.proofs.lemmas.Int.{by_lt_z}
use Rattle.std.proofs.lemmas.List.Elements.{All-head, All-tail}
use Rattle.std.proofs.lemmas.List.Folds.{list_any-append, list_any_more}
use Rattle.std.proofs.lemmas.Option.{slice_get-get_or}
use Rattle.std.specs.Prelude.{pos, ◌-ℤ◌, ◌*ℤ◌, ◌<ℤ◌}
use Rattle.lump_records.proofs.Signs.{linear}
use Rattle.lump_records.specs.declared.records.Vertex.{Vertex}
use Rattle.map_plane.proofs.Means.{at_is, is_at-same, turn}
use Rattle.map_plane.proofs.Tests.{and_both, both}
use Rattle.map_plane.specs.Meeting.{boxes_meet, ends_at, has_on_both_sides, is_at, is_on}
use Rattle.map_plane.specs.Places.{placed_lines}
use Rattle.map_plane.specs.declared.places.PlacedLine.{PlacedLine}
use Rattle.map_tables.specs.Tables.{Tables}
use Rattle.map_areas.proofs.AlongLines.{far, falls, grows, has_length, one_place, rises, sides_says, stands_at, straight}
use Rattle.map_areas.proofs.Further.{between_length, between_on, equal}
use Rattle.map_areas.specs.Cuts.{IsCutWhereMet, is_cut_at, uncut}
use Rattle.map_areas.specs.Inside.{is_border_stop}
use Rattle.map_areas.specs.Stops.{crosses_at, is_met}
use Rattle.map_areas.specs.Ways.{crosses_way, is_between}
use Rattle.map_areas.specs.declared.border.CutEdge.{CutEdge}

-- ---- where an edge crosses a line

same_tests : (a b : Bool) → (a ≡ true → b ≡ true) → (b ≡ true → a ≡ true) → a ≡ b
same_tests true b f g = sym (f refl)
same_tests false true f g = g refl
same_tests false false f g = refl

pub turned_at : (p q : Vertex) → is_at p q ≡ is_at q p
turned_at p q =
    same_tests (is_at p q) (is_at q p) (λ h. is_at-same q p (sym (at_is p q h))) (λ h. is_at-same p q (sym (at_is q p h)))

neither_end : (a b t : Bool) → (a ≡ true → ⊥) → (b ≡ true → ⊥) → t ≡ true → (t && not (a || b)) ≡ true
neither_end true b t f g h = absurd (f refl)
neither_end false true t f g h = absurd (g refl)
neither_end false false true f g h = refl
neither_end false false false f g h = h

module _ (e l : PlacedLine) (cross : crosses_way e l ≡ true) where
  apart : has_on_both_sides l e ≡ true
  apart = (and_both (boxes_meet e l && has_on_both_sides e l) (has_on_both_sides l e) cross).1

  -- none of the edge's ends lies on the line
  off_from : is_on l e.from ≡ true → ⊥
  off_from h =
      let z = straight l e.from h in
      ⊎_elim
      (λ (s : (turn l.from l.to e.from <ℤ pos 0) × (pos 0 <ℤ turn l.from l.to e.to)). let a = s.0 in absurd (omega (arith, linear)))
      (λ (s : (pos 0 <ℤ turn l.from l.to e.from) × (turn l.from l.to e.to <ℤ pos 0)). let a = s.0 in absurd (omega (arith, linear)))
      (sides_says l e apart)

  off_to : is_on l e.to ≡ true → ⊥
  off_to h =
      let z = straight l e.to h in
      ⊎_elim
      (λ (s : (turn l.from l.to e.from <ℤ pos 0) × (pos 0 <ℤ turn l.from l.to e.to)). let a = s.1 in absurd (omega (arith, linear)))
      (λ (s : (pos 0 <ℤ turn l.from l.to e.from) × (turn l.from l.to e.to <ℤ pos 0)). let a = s.1 in absurd (omega (arith, linear)))
      (sides_says l e apart)

  -- a place of both is between the edge's ends
  pub crossing_between : (p : Vertex) → is_on e p ≡ true → is_on l p ≡ true → is_between e p ≡ true
  unfolding ends_at
  crossing_between p oe ol =
      neither_end (is_at e.from p) (is_at e.to p) (is_on e p)
      (λ h. off_from (ap (λ (v : Vertex). is_on l v) (at_is e.from p h) ∙ ol))
      (λ h. off_to (ap (λ (v : Vertex). is_on l v) (at_is e.to p h) ∙ ol)) oe

  -- no two places of both, one before the other along the edge
  none_before : (p q : Vertex) → is_on e p ≡ true → is_on e q ≡ true → is_on l p ≡ true → is_on l q ≡ true → far e p <ℤ far e q → ⊥
  none_before p q op oq lp lq h =
      let n = far e e.to in
      let n0 : pos 0 <ℤ n = has_length e p q h in
      let slope = turn l.from l.to e.to -ℤ turn l.from l.to e.from in
      let start = n *ℤ turn l.from l.to e.from in
      let vp = grows e.from e.to l.from l.to p n (far e p) (stands_at e p op) in
      let vq = grows e.from e.to l.from l.to q n (far e q) (stands_at e q oq) in
      let zp : turn l.from l.to p ≡ pos 0 = straight l p lp in
      let zq : turn l.from l.to q ≡ pos 0 = straight l q lq in
      ⊎_elim
      (λ (s : (turn l.from l.to e.from <ℤ pos 0) × (pos 0 <ℤ turn l.from l.to e.to)).
      let a = s.0 in let b = s.1 in
      let d0 : pos 0 <ℤ slope = omega (arith, linear) in
      let r = rises n slope start (far e p) (far e q) (turn l.from l.to p) (turn l.from l.to q) n0 d0 vp vq h in
      absurd (omega (arith, linear)))
      (λ (s : (pos 0 <ℤ turn l.from l.to e.from) × (turn l.from l.to e.to <ℤ pos 0)).
      let a = s.0 in let b = s.1 in
      let d0 : slope <ℤ pos 0 = omega (arith, linear) in
      let r = falls n slope start (far e p) (far e q) (turn l.from l.to p) (turn l.from l.to q) n0 d0 vp vq h in
      absurd (omega (arith, linear)))
      (sides_says l e apart)

  -- they cross at one place
  one_crossing : (p q : Vertex) → is_between e p ≡ true → is_on e q ≡ true → is_on l p ≡ true → is_on l q ≡ true → p ≡ q
  one_crossing p q bp oq lp lq =
      let op = between_on e p bp in
      one_place e p q (between_length e p bp) op oq
      (by_lt_z (far e p) (far e q) (λ lt. absurd (none_before p q op oq lp lq lt))
      (λ ge. by_lt_z (far e q) (far e p) (λ lt. absurd (none_before q p oq op lq lp lt)) (λ le. equal (far e p) (far e q) le ge)))

  crossed_here : (x p : Vertex) → is_on e x ≡ true → is_on l x ≡ true → is_at p x ≡ (is_between e p && crosses_at e p l)
  crossed_here x p ex lx =
      same_tests (is_at p x) (is_between e p && crosses_at e p l)
      (λ h.
      let is = at_is p x h in
      let ep = ap (λ (v : Vertex). is_on e v) is ∙ ex in
      let lp = ap (λ (v : Vertex). is_on l v) is ∙ lx in
      both (is_between e p) (crosses_at e p l) (crossing_between p ep lp) (both (crosses_way e l) (is_on l p) cross lp))
      (λ h.
      let two = and_both (is_between e p) (crosses_at e p l) h in
      let at = and_both (crosses_way e l) (is_on l p) two.1 in
      is_at-same p x (one_crossing p x two.0 ex at.1 lx))

or_turned : (a b : Bool) → (a || b) ≡ (b || a)
or_turned true true = refl
or_turned true false = refl
or_turned false true = refl
or_turned false false = refl

-- the place of a crossing was put among others
pub crossing_put : (e l : PlacedLine) → crosses_way e l ≡ true → (x : Vertex) → is_on e x ≡ true → is_on l x ≡ true → (o : Option PlacedLine) → o ≡ Some l
    → (p : Vertex) (b c : Bool) → c ≡ (is_at p x || b) → c ≡ (b || (is_between e p && option_map_or (crosses_at e p) o false))
crossing_put e l cross x ex lx o is p b c h =
    h ∙ or_turned (is_at p x) b
    ∙ ap (λ t. b || t) (crossed_here e l cross x p ex lx)
    ∙ ap (λ (z : Option PlacedLine). b || (is_between e p && option_map_or (crosses_at e p) z false)) (sym is)

nothing : (a b : Bool) → a ≡ (a || (b && false))
nothing true b = refl
nothing false true = refl
nothing false false = refl

-- where there is no line, or it doesn't cross, nothing is put
pub no_line_put : (e : PlacedLine) (o : Option PlacedLine) → o ≡ None → (p : Vertex) (b : Bool)
    → b ≡ (b || (is_between e p && option_map_or (crosses_at e p) o false))
no_line_put e o is p b =
    nothing b (is_between e p) ∙ ap (λ (z : Option PlacedLine). b || (is_between e p && option_map_or (crosses_at e p) z false)) (sym is)

pub uncrossed_put : (e l : PlacedLine) → crosses_way e l ≡ false → (o : Option PlacedLine) → o ≡ Some l → (p : Vertex) (b : Bool)
    → b ≡ (b || (is_between e p && option_map_or (crosses_at e p) o false))
uncrossed_put e l un o is p b =
    nothing b (is_between e p)
    ∙ ap (λ t. b || (is_between e p && (t && is_on l p))) (sym un)
    ∙ ap (λ (z : Option PlacedLine). b || (is_between e p && option_map_or (crosses_at e p) z false)) (sym is)

together : (a b c d : Bool) → ((a || (b && c)) || (b && d)) ≡ (a || (b && (c || d)))
together true b c d = refl
together false true c d = refl
together false false c d = refl

one_more : {X : Type 0} (f : X → Bool) (xs : List X) (n : ℕ) → n < length xs → (list_any f (take n xs) || option_map_or f (slice_get xs n) false) ≡ list_any f (take (n + 1) xs)
one_more f [] n lt = absurd (omega arith)
one_more f (x ∷ xs) n lt =
    ap (λ o. list_any f (take n (x ∷ xs)) || option_map_or f o false) (slice_get-get_or (x ∷ xs) n x lt) ∙ sym (list_any_more f (x ∷ xs) n x lt)

-- one more line
pub crossings_more : (e : PlacedLine) (ls : List PlacedLine) (n : ℕ) → n < length ls → (p : Vertex) (a b c : Bool)
    → c ≡ (b || (is_between e p && option_map_or (crosses_at e p) (slice_get ls n) false))
    → b ≡ (a || (is_between e p && list_any (crosses_at e p) (take n ls)))
    → c ≡ (a || (is_between e p && list_any (crosses_at e p) (take (n + 1) ls)))
crossings_more e ls n lt p a b c new old =
    new ∙ ap (λ t. t || (is_between e p && option_map_or (crosses_at e p) (slice_get ls n) false)) old
    ∙ together a (is_between e p) (list_any (crosses_at e p) (take n ls)) (option_map_or (crosses_at e p) (slice_get ls n) false)
    ∙ ap (λ t. a || (is_between e p && t)) (one_more (crosses_at e p) ls n lt)

-- vertices, and then crossings
pub met_there : (m : Tables) (e : PlacedLine) (p : Vertex) (b c : Bool) → c ≡ (b || (is_between e p && list_any (crosses_at e p) (placed_lines m)))
    → b ≡ (false || (is_between e p && list_any (is_at p) m.vertices)) → c ≡ is_met m e p
met_there m e p b c new old =
    new ∙ ap (λ t. t || (is_between e p && list_any (crosses_at e p) (placed_lines m))) old
    ∙ together false (is_between e p) (list_any (is_at p) m.vertices) (list_any (crosses_at e p) (placed_lines m))

-- ---- the stops of the border

-- one more edge
grouped : (a b c : Bool) → ((a || (b || false)) || c) ≡ (a || (b || c))
grouped true b c = refl
grouped false true c = refl
grouped false false c = refl

pub stops_more : (cs : List CutEdge) (i : ℕ) (x : CutEdge) → i < length cs → x ≡ get_or cs i x → (stops : List Vertex) → ((p : Vertex) → list_any (is_at p) stops ≡ is_cut_at (take i cs) p)
    → (p : Vertex) → list_any (is_at p) ((stops ++ x.edge.from ∷ []) ++ x.cuts.items) ≡ is_cut_at (take (i + 1) cs) p
stops_more cs i x lt is stops so p =
    list_any-append (is_at p) (stops ++ x.edge.from ∷ []) x.cuts.items
    ∙ ap (λ t. t || list_any (is_at p) x.cuts.items) (list_any-append (is_at p) stops (x.edge.from ∷ []))
    ∙ grouped (list_any (is_at p) stops) (is_at p x.edge.from) (list_any (is_at p) x.cuts.items)
    ∙ (λ t. so p t || (turned_at p x.edge.from t || list_any (is_at p) x.cuts.items))
    ∙ ap (λ (k : CutEdge). is_cut_at (take i cs) p || (is_at k.edge.from p || list_any (is_at p) k.cuts.items)) is
    ∙ sym (list_any_more (λ (k : CutEdge). is_at k.edge.from p || list_any (is_at p) k.cuts.items) cs i x lt)

-- the border stops where an edge begins or is cut
pub cut_stops : (m : Tables) (cs : List CutEdge) → All (IsCutWhereMet m) cs → (p : Vertex) → is_cut_at cs p ≡ is_border_stop m (uncut cs) p
cut_stops m [] all p = refl
cut_stops m (c ∷ cs) all p =
    (λ t. (is_at c.edge.from p || All-head (IsCutWhereMet m) c cs all p t) || cut_stops m cs (All-tail (IsCutWhereMet m) c cs all) p t)
