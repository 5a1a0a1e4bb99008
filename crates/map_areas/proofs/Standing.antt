-- A pillar that no reason refuses.
use Rattle.std.proofs.Common.{◌≡◌, ℕ, zero, suc, ◌<◌, ◌≤◌, All, Bool, true, false, ◌&&◌, ◌||◌, ◌==◌, not, List, [], ◌∷◌, get_or, length, Option, Some, None, refl, sym, ap, ◌∙◌, arith}
use Rattle.std.specs.List.{list_any, slice_get}
use Rattle.std.specs.Option.{option_map_or}
use Rattle.std.specs.Prelude.{is_none}
use Rattle.std.specs.Ordering.{int_eq}
use Rattle.std.proofs.lemmas.Bool.Decides.{Decides-int_eq, nat_tests}
use Rattle.std.proofs.lemmas.List.Elements.{All-get_or}
use Rattle.std.proofs.lemmas.List.Folds.{Any-from_list_any, list_any_at}
use Rattle.lump_records.specs.declared.records.Vertex.{Vertex}
use Rattle.map_plane.proofs.LineReads.{length-placed_lines}
use Rattle.map_plane.proofs.Tests.{and_both, both, or_right}
use Rattle.map_plane.specs.Meeting.{is_at}
use Rattle.map_plane.specs.Nearest.{sector_of_place}
use Rattle.map_plane.specs.Places.{placed_lines}
use Rattle.map_plane.specs.declared.places.PlacedLine.{PlacedLine}
use Rattle.map_tables.specs.Tables.{Tables}
use Rattle.map_areas.specs.Refusals.{IsLineInside, are_apart, is_corner_part, is_in_the_way}
use Rattle.map_areas.specs.Ways.{is_same}
use Rattle.map_areas.specs.declared.error.Part.{Part}

-- ---- Its corners

same_place : (v w : Vertex) → is_at v w ≡ true → v ≡ w
unfolding is_at
same_place v w h =
    let b = and_both (int_eq v.x w.x) (int_eq v.y w.y) h in
    λ i. record { x = (Decides-int_eq v.x w.x).0 b.0 i; y = (Decides-int_eq v.y w.y).0 b.1 i }

-- a sector that is the same as one
pub same_sector : (s : ℕ) (o : Option ℕ) → is_same (Some s) o ≡ true → o ≡ Some s
same_sector s None h = cc
same_sector s (Some k) h =
    let e : k ≡ s = grind (arith, nat_tests) in
    ap (λ (n : ℕ). Some n) e

-- a corner is in the sector of all corners
corner_in : (m : Tables) (es : List PlacedLine) (s : ℕ) (p : Part) → All (λ e. sector_of_place m e.from ≡ Some s) es → is_corner_part m es p ≡ true → p.sector ≡ Some s
corner_in m es s p all h =
    let b = and_both (list_any (λ e. is_at e.from p.from && is_at e.to p.to) es) (is_same (sector_of_place m p.from) p.sector) h in
    let any = Any-from_list_any (λ e. is_at e.from p.from && is_at e.to p.to) es b.0 in
    let e = any.1 in
    let at = and_both (is_at e.from p.from) (is_at e.to p.to) any.4 in
    let its : sector_of_place m (get_or es any.0 e).from ≡ Some s = All-get_or (λ e. sector_of_place m e.from ≡ Some s) es any.0 e any.2 all in
    let here : sector_of_place m p.from ≡ Some s =
    ap (λ (v : Vertex). sector_of_place m v) (sym (same_place e.from p.from at.0)) ∙ ap (λ (l : PlacedLine). sector_of_place m l.from) (sym any.3) ∙ its in
    same_sector s p.sector (ap (λ (o : Option ℕ). is_same o p.sector) (sym here) ∙ b.1)

pub both_and : (a b t : Bool) → (a ≡ true → b ≡ true → t ≡ false) → (a && b && t) ≡ false
both_and true true t f = f refl refl
both_and true false t f = refl
both_and false b t f = refl

equals_itself : (s : ℕ) → not (s == s) ≡ false
equals_itself s = grind (arith, nat_tests)

in_one : (o p : Option ℕ) (s : ℕ) → o ≡ Some s → p ≡ Some s → (is_none p || not (is_same o p)) ≡ false
in_one o p s a b = (λ i. is_none (b i) || not (is_same (a i) (b i))) ∙ equals_itself s

-- no two corners are apart if all are in one sector
pub not_apart : (m : Tables) (es : List PlacedLine) (s : ℕ) (first second : Part) → All (λ e. sector_of_place m e.from ≡ Some s) es → are_apart m es first second ≡ false
not_apart m es s first second all =
    both_and (is_corner_part m es first) (is_corner_part m es second) (is_none second.sector || not (is_same first.sector second.sector))
    (λ a b. in_one first.sector second.sector s (corner_in m es s first all a) (corner_in m es s second all b))

at_itself : (v : Vertex) → is_at v v ≡ true
unfolding is_at
at_itself v = both (int_eq v.x v.x) (int_eq v.y v.y) ((Decides-int_eq v.x v.x).1 refl) ((Decides-int_eq v.y v.y).1 refl)

pub same_itself : (o : Option ℕ) → is_same o o ≡ true
same_itself None = refl
same_itself (Some n) = grind (arith, nat_tests)

-- an edge, and the sector of its start
corner_there : (m : Tables) (es : List PlacedLine) (k : ℕ) (d : PlacedLine) (p : Part) → k < length es → p.from ≡ (get_or es k d).from → p.to ≡ (get_or es k d).to
    → p.sector ≡ sector_of_place m (get_or es k d).from → is_corner_part m es p ≡ true
corner_there m es k d p lt from to sector =
    let e = get_or es k d in
    let leads = λ (l : PlacedLine). is_at l.from p.from && is_at l.to p.to in
    let start : is_at e.from p.from ≡ true = ap (is_at e.from) from ∙ at_itself e.from in
    let end : is_at e.to p.to ≡ true = ap (is_at e.to) to ∙ at_itself e.to in
    let there : list_any leads es ≡ true = list_any_at leads es k d lt (both (is_at e.from p.from) (is_at e.to p.to) start end) in
    let same : is_same (sector_of_place m p.from) p.sector ≡ true =
    (λ i. is_same (sector_of_place m (from i)) (sector i)) ∙ same_itself (sector_of_place m e.from) in
    both (list_any leads es) (is_same (sector_of_place m p.from) p.sector) there same

-- a corner in no sector
pub apart_in_void : (m : Tables) (es : List PlacedLine) (d : PlacedLine) (p : Part) → 0 < length es → p.from ≡ (get_or es 0 d).from → p.to ≡ (get_or es 0 d).to
    → p.sector ≡ sector_of_place m (get_or es 0 d).from → p.sector ≡ None → are_apart m es p p ≡ true
apart_in_void m es d p lt from to sector none =
    let corner = corner_there m es 0 d p lt from to sector in
    λ i. corner i && corner i && (is_none (none i) || not (is_same p.sector p.sector))

-- a corner in another sector than the first one, or in none
pub apart_in_two : (m : Tables) (es : List PlacedLine) (d : PlacedLine) (p : Part) (k : ℕ) (e : PlacedLine) (q : Part) (s : ℕ)
    → 0 < length es → p.from ≡ (get_or es 0 d).from → p.to ≡ (get_or es 0 d).to → p.sector ≡ sector_of_place m (get_or es 0 d).from → p.sector ≡ Some s
    → k < length es → q.from ≡ (get_or es k e).from → q.to ≡ (get_or es k e).to → q.sector ≡ sector_of_place m (get_or es k e).from
    → is_same (Some s) q.sector ≡ false → are_apart m es p q ≡ true
apart_in_two m es d p k e q s some from to sector one lt from' to' sector' apart =
    let corner = corner_there m es 0 d p some from to sector in
    let other = corner_there m es k e q lt from' to' sector' in
    let differ : not (is_same p.sector q.sector) ≡ true = ap (λ (o : Option ℕ). not (is_same o q.sector)) one ∙ ap not apart in
    let last : (is_none q.sector || not (is_same p.sector q.sector)) ≡ true = or_right (is_none q.sector) (not (is_same p.sector q.sector)) differ in
    λ i. corner i && other i && last i

-- ---- Lines

-- an item for which a test holds is in the list
found_within : {X : Type 0} (f : X → Bool) (xs : List X) (k : ℕ) → option_map_or f (slice_get xs k) false ≡ true → k < length xs
found_within f [] k h = cc
found_within f (x ∷ xs) zero h = omega arith
found_within f (x ∷ xs) (suc k) h =
    let r : k < length xs = found_within f xs k h in
    omega arith

-- all lines
pub outside_all : (m : Tables) (es : List PlacedLine) (n : ℕ) → length m.lines ≤ n → ((k : ℕ) → k < n → IsLineInside m es k → ⊥) → (k : ℕ) → IsLineInside m es k → ⊥
outside_all m es n le none k h =
    let within : k < length (placed_lines m) = found_within (is_in_the_way es) (placed_lines m) k h in
    let size : length (placed_lines m) ≡ length m.lines = length-placed_lines m in
    none k (omega arith) h
