-- Places put among others along a line, in their order.
use Rattle.std.proofs.Common.{◌≡◌, ℕ, zero, suc, All, Bool, true, false, ◌&&◌, ◌||◌, List, [], ◌∷◌, ◌++◌, drop, take, Option, Some, None, refl, sym, ap, ◌∙◌}
use Rattle.std.specs.List.{list_any, slice_get}
use Rattle.std.specs.Option.{option_map_or}
use Rattle.std.proofs.lemmas.Bool.{false≢true}
use Rattle.std.proofs.lemmas.Int.{by_lt_z}
use Rattle.std.proofs.lemmas.List.Elements.{All-head, All-tail}
use Rattle.std.proofs.lemmas.List.Folds.{list_any-append, list_any_at}
use Rattle.std.proofs.lemmas.Option.{get_or_from_slice_get, slice_get_within}
use Rattle.lump_records.specs.declared.records.Vertex.{Vertex}
use Rattle.map_plane.proofs.Means.{at_is, is_at-same}
use Rattle.map_plane.proofs.Tests.{and_both, both}
use Rattle.map_plane.specs.Meeting.{is_at}
use Rattle.map_plane.specs.declared.places.PlacedLine.{PlacedLine}
use Rattle.map_areas.proofs.Any.{take_then_drop}
use Rattle.map_areas.proofs.AlongLines.{far, one_place}
use Rattle.map_areas.proofs.Further.{between_length, between_on, equal, first_is, not_first}
use Rattle.map_areas.specs.Cuts.{are_cuts}
use Rattle.map_areas.specs.Stops.{comes_first}
use Rattle.map_areas.specs.Ways.{is_between}

-- ---- which places there are

first_of : (a b c : Bool) → (a || (b || c)) ≡ (b || (a || c))
first_of true true c = refl
first_of true false c = refl
first_of false true c = refl
first_of false false c = refl

-- one more place
pub one_put : (ps : List Vertex) (i : ℕ) (x p : Vertex) → list_any (is_at p) (take i ps ++ x ∷ drop i ps) ≡ (is_at p x || list_any (is_at p) ps)
one_put ps i x p =
    list_any-append (is_at p) (take i ps) (x ∷ drop i ps)
    ∙ first_of (list_any (is_at p) (take i ps)) (is_at p x) (list_any (is_at p) (drop i ps))
    ∙ ap (λ b. is_at p x || b) (sym (list_any-append (is_at p) (take i ps) (drop i ps)) ∙ ap (list_any (is_at p)) (take_then_drop ps i))

there_too : (a b : Bool) → (a ≡ true → b ≡ true) → b ≡ (a || b)
there_too true b h = h refl
there_too false b h = refl

-- a place that is there already
pub one_there : (ps : List Vertex) (i : ℕ) (x p : Vertex) → slice_get ps i ≡ Some x → list_any (is_at p) ps ≡ (is_at p x || list_any (is_at p) ps)
one_there ps i x p is =
    there_too (is_at p x) (list_any (is_at p) ps)
    (λ h. list_any_at (is_at p) ps i x (slice_get_within ps i x is)
    (ap (λ (v : Vertex). is_at p v) (get_or_from_slice_get ps i x x is) ∙ h))

-- a place that is found is the one that was looked for
pub found_at : (o : Option Vertex) (x : Vertex) → option_map_or (λ (q : Vertex). is_at q x) o false ≡ true → o ≡ Some x
found_at None x h = cc
found_at (Some q) x h = ap (λ (v : Vertex). Some v) (at_is q x h)

pub not_found : (o : Option Vertex) (x : Vertex) → option_map_or (λ (q : Vertex). is_at q x) o false ≡ false → o ≡ Some x → ⊥
not_found o x h is = false≢true (sym h ∙ ap (λ (z : Option Vertex). option_map_or (λ (q : Vertex). is_at q x) z false) is ∙ is_at-same x x refl)

if_between : (a b t : Bool) → (a ≡ true → t ≡ true) → (a || b) ≡ (b || (t && a))
if_between true true t h = refl
if_between true false t h = sym (ap (λ c. c && true) (h refl))
if_between false true t h = refl
if_between false false true h = refl
if_between false false false h = refl

at_between : (l : PlacedLine) (x p : Vertex) → is_between l x ≡ true → is_at p x ≡ true → is_between l p ≡ true
at_between l x p h k = ap (λ (v : Vertex). is_between l v) (at_is p x k) ∙ h

-- one that is between the ends of a line
pub put_if : (l : PlacedLine) (ps : List Vertex) (x p : Vertex) (b : Bool) → is_between l x ≡ true → b ≡ (is_at p x || list_any (is_at p) ps)
    → b ≡ (list_any (is_at p) ps || (is_between l p && is_at p x))
put_if l ps x p b h k = k ∙ if_between (is_at p x) (list_any (is_at p) ps) (is_between l p) (at_between l x p h)

unless_between : (a b t : Bool) → (a ≡ true → t ≡ true → false ≡ true) → b ≡ (b || (t && a))
unless_between true true t h = refl
unless_between true false true h = h refl refl
unless_between true false false h = refl
unless_between false true t h = refl
unless_between false false true h = refl
unless_between false false false h = refl

-- one that isn't
pub put_unless : (l : PlacedLine) (ps : List Vertex) (x p : Vertex) → is_between l x ≡ false
    → list_any (is_at p) ps ≡ (list_any (is_at p) ps || (is_between l p && is_at p x))
put_unless l ps x p h =
    unless_between (is_at p x) (list_any (is_at p) ps) (is_between l p)
    (λ k t. sym h ∙ ap (λ (v : Vertex). is_between l v) (sym (at_is p x k)) ∙ t)

-- ---- their order

-- of two places of a line that aren't one, the one that doesn't come first comes behind
behind : (l : PlacedLine) (q x : Vertex) → is_between l q ≡ true → is_between l x ≡ true → comes_first l q x ≡ false → (q ≡ x → ⊥) → comes_first l x q ≡ true
behind l q x hq hx h apart =
    by_lt_z (far l x) (far l q) (first_is l x q)
    (λ ge. absurd (apart (one_place l q x (between_length l x hx) (between_on l q hq) (between_on l x hx) (equal (far l q) (far l x) ge (not_first l q x h)))))

pub put_order : (l : PlacedLine) (x : Vertex) → is_between l x ≡ true → (a : Vertex) (ps : List Vertex) (i : ℕ) → comes_first l a x ≡ true
    → All (λ q. comes_first l q x ≡ true) (take i ps) → ((q : Vertex) → slice_get ps i ≡ Some q → comes_first l q x ≡ false)
    → (slice_get ps i ≡ Some x → ⊥) → are_cuts l a ps ≡ true → are_cuts l a (take i ps ++ x ∷ drop i ps) ≡ true
put_order l x hx a [] zero ax before next apart cuts = both (is_between l x && comes_first l a x) true (both (is_between l x) (comes_first l a x) hx ax) refl
put_order l x hx a [] (suc i) ax before next apart cuts = both (is_between l x && comes_first l a x) true (both (is_between l x) (comes_first l a x) hx ax) refl
put_order l x hx a (q ∷ qs) zero ax before next apart cuts =
    let two = and_both (is_between l q && comes_first l a q) (are_cuts l q qs) cuts in
    let one = and_both (is_between l q) (comes_first l a q) two.0 in
    let xq = behind l q x one.0 hx (next q refl) (λ e. apart (ap (λ (v : Vertex). Some v) e)) in
    both (is_between l x && comes_first l a x) ((is_between l q && comes_first l x q) && are_cuts l q qs) (both (is_between l x) (comes_first l a x) hx ax)
    (both (is_between l q && comes_first l x q) (are_cuts l q qs) (both (is_between l q) (comes_first l x q) one.0 xq) two.1)
put_order l x hx a (q ∷ qs) (suc i) ax before next apart cuts =
    let two = and_both (is_between l q && comes_first l a q) (are_cuts l q qs) cuts in
    both (is_between l q && comes_first l a q) (are_cuts l q (take i qs ++ x ∷ drop i qs)) two.0
    (put_order l x hx q qs i (All-head (λ v. comes_first l v x ≡ true) q (take i qs) before) (All-tail (λ v. comes_first l v x ≡ true) q (take i qs) before) next apart two.1)
