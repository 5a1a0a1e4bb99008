-- What is on the left of a way: a sector of the map, or the void.
use Rattle.std.proofs.Common.{◌≡◌, ℕ, ◌<◌, Bool, true, false, ◌&&◌, ◌||◌, not, List, [], ◌∷◌, length, Option, Some, None, refl, sym, ap, ◌∙◌, subst}
use Rattle.std.specs.List.{list_any, slice_get}
use Rattle.std.specs.Option.{IfSome, option_map}
use Rattle.std.specs.Prelude.{find, if◌then◌else◌, option_and_then}
use Rattle.std.proofs.lemmas.Option.{get_or_from_slice_get, slice_get_within}
use Rattle.lump_records.specs.declared.records.Line.{Line}
use Rattle.lump_records.specs.declared.records.Side.{Side}
use Rattle.lump_records.specs.declared.records.Vertex.{Vertex}
use Rattle.map_plane.proofs.Tests.{or_left, or_right}
use Rattle.map_plane.specs.Nearest.{nearest, sector_shown, side_shown}
use Rattle.map_plane.specs.Places.{placed_lines}
use Rattle.map_plane.specs.declared.places.PlacedLine.{PlacedLine}
use Rattle.map_tables.specs.Tables.{Tables}
use Rattle.map_tables.specs.WellFormed.{HasSector, WellFormed}
use Rattle.map_areas.proofs.Standing.{same_itself, same_sector}
use Rattle.map_areas.specs.Apart.{doubled, place_sum}
use Rattle.map_areas.specs.Ways.{faces_left, is_left_of_way, is_same, left_faced, runs_along, sector_along, sector_between, sector_on_right, side_on_left}

-- ---- which it is

some_same : {a b : PlacedLine} → Some a ≡ Some b → a ≡ b
some_same e = cc

-- one of the lines is along the way, and faces this there
found_in : (m : Tables) (w l : PlacedLine) (ls : List PlacedLine) → find (runs_along w) ls ≡ Some l → list_any (faces_left m w (left_faced m w l)) ls ≡ true
found_in m w l [] e = cc
found_in m w l (x ∷ xs) e = by (runs_along w x) refl e (found_in m w l xs)
  where
    by : (b : Bool) → runs_along w x ≡ b → (if b then Some x else find (runs_along w) xs) ≡ Some l
        → (find (runs_along w) xs ≡ Some l → list_any (faces_left m w (left_faced m w l)) xs ≡ true)
        → ((runs_along w x && is_same (left_faced m w x) (left_faced m w l)) || list_any (faces_left m w (left_faced m w l)) xs) ≡ true
    by true at is rest =
        or_left (runs_along w x && is_same (left_faced m w x) (left_faced m w l)) (list_any (faces_left m w (left_faced m w l)) xs)
        ((λ i. at i && is_same (left_faced m w (some_same is i)) (left_faced m w l)) ∙ same_itself (left_faced m w l))
    by false at is rest = or_right (runs_along w x && is_same (left_faced m w x) (left_faced m w l)) (list_any (faces_left m w (left_faced m w l)) xs) (rest is)

-- what the first line along the way faces there
pub left_along : (m : Tables) (w l : PlacedLine) → find (runs_along w) (placed_lines m) ≡ Some l → is_left_of_way m w (left_faced m w l) ≡ true
left_along m w l h =
    or_left (list_any (faces_left m w (left_faced m w l)) (placed_lines m))
    (not (list_any (runs_along w) (placed_lines m)) && is_same (sector_between m w) (left_faced m w l)) (found_in m w l (placed_lines m) h)

none_along : (f : PlacedLine → Bool) (ls : List PlacedLine) → find f ls ≡ None → list_any f ls ≡ false
none_along f [] e = refl
none_along f (x ∷ xs) e = by (f x) refl e (none_along f xs)
  where
    by : (b : Bool) → f x ≡ b → (if b then Some x else find f xs) ≡ None → (find f xs ≡ None → list_any f xs ≡ false) → (f x || list_any f xs) ≡ false
    by true at is rest = cc
    by false at is rest = ap (λ b. b || list_any f xs) at ∙ rest is

-- what its middle belongs to, where no line is along it
pub left_between : (m : Tables) (w : PlacedLine) → find (runs_along w) (placed_lines m) ≡ None → is_left_of_way m w (sector_between m w) ≡ true
left_between m w h =
    or_right (list_any (faces_left m w (sector_between m w)) (placed_lines m)) (not (list_any (runs_along w) (placed_lines m)) && is_same (sector_between m w) (sector_between m w))
    (ap (λ b. not b && is_same (sector_between m w) (sector_between m w)) (none_along (runs_along w) (placed_lines m) h) ∙ same_itself (sector_between m w))

-- it is what is round the way then
means_same : (a b : Option ℕ) → is_same a b ≡ true → b ≡ a
means_same None None h = refl
means_same None (Some n) h = cc
means_same (Some s) b h = same_sector s b h

-- ---- that it is one of the map's

side_here : (m : Tables) (k : ℕ) (o : Option Side) → WellFormed m → slice_get m.sides k ≡ o → IfSome (option_map (λ s. s.sector) o) (λ n. n < length m.sectors)
side_here m k None fine is = tt
side_here m k (Some s) fine is =
    subst (HasSector m.sectors) (get_or_from_slice_get m.sides k s s is) (fine.side_sectors k s (slice_get_within m.sides k s is))

faced_here : (m : Tables) (w l : PlacedLine) (o : Option Line) → WellFormed m
    → IfSome (option_and_then (λ line. option_map (λ s. s.sector) (slice_get m.sides (side_on_left w l line))) o) (λ n. n < length m.sectors)
faced_here m w l None fine = tt
faced_here m w l (Some line) fine = side_here m (side_on_left w l line) (slice_get m.sides (side_on_left w l line)) fine refl

-- what a line faces
pub left_here : (m : Tables) (w l : PlacedLine) → WellFormed m → IfSome (left_faced m w l) (λ n. n < length m.sectors)
left_here m w l fine = faced_here m w l (slice_get m.lines l.number) fine

shown_line : (m : Tables) (p : Vertex) (l : PlacedLine) (o : Option Line) → WellFormed m
    → IfSome (option_and_then (λ line. option_map (λ s. s.sector) (slice_get m.sides (side_shown l p.y line))) o) (λ n. n < length m.sectors)
shown_line m p l None fine = tt
shown_line m p l (Some line) fine = side_here m (side_shown l p.y line) (slice_get m.sides (side_shown l p.y line)) fine refl

shown_here : (m : Tables) (p : Vertex) (o : Option PlacedLine) → WellFormed m → IfSome (option_and_then (sector_shown m p) o) (λ n. n < length m.sectors)
unfolding sector_shown
shown_here m p None fine = tt
shown_here m p (Some l) fine = shown_line m p l (slice_get m.lines l.number) fine

-- what the middle of a way belongs to
pub between_here : (m : Tables) (w : PlacedLine) → WellFormed m → IfSome (sector_between m w) (λ n. n < length m.sectors)
between_here m w fine = shown_here m (place_sum w.from w.to) (nearest (doubled (placed_lines m)) (place_sum w.from w.to)) fine

-- ---- where no line is along the way, what is round it

pub left_led : (m : Tables) (w : PlacedLine) (round : Option ℕ) → find (runs_along w) (placed_lines m) ≡ None → is_same (sector_on_right m w) round ≡ true
    → WellFormed m → (is_left_of_way m w round ≡ true) × IfSome round (λ n. n < length m.sectors)
left_led m w round none led fine =
    let same : round ≡ sector_between m w =
    means_same (sector_between m w) round (ap (λ (o : Option PlacedLine). is_same (sector_along m w o) round) (sym none) ∙ led) in
    (ap (is_left_of_way m w) same ∙ left_between m w none, subst (λ (o : Option ℕ). IfSome o (λ n. n < length m.sectors)) (sym same) (between_here m w fine))
