-- Lines that divide a sector from what was there, as a drawing goes on.
use Rattle.std.proofs.Common.{◌≡◌, ℕ, zero, suc, ◌<◌, All, Bool, true, false, ◌&&◌, ◌||◌, ◌==◌, not, List, [], ◌∷◌, length, Option, Some, None, refl, sym, ap, ◌∙◌, ⊎_elim, subst, arith}
use Rattle.std.specs.List.{list_any, slice_get}
use Rattle.std.specs.Option.{IfSome, option_map, option_map_or}
use Rattle.std.specs.Prelude.{if◌then◌else◌}
use Rattle.std.proofs.lemmas.Bool.Decides.{eqb_tells}
use Rattle.std.proofs.lemmas.List.Elements.{All-cons, All-head, All-nil, All-tail}
use Rattle.std.proofs.lemmas.Option.{get_or_from_slice_get, slice_get_cases, slice_get_within}
use Rattle.lump_records.specs.declared.records.Line.{Line}
use Rattle.lump_records.specs.declared.records.Side.{Side}
use Rattle.lump_records.specs.declared.records.Vertex.{Vertex}
use Rattle.map_plane.proofs.LineReads.{length-placed_lines, placed_there}
use Rattle.map_plane.proofs.Means.{is_at-same}
use Rattle.map_plane.proofs.Tests.{and_both, both, or_either, or_left, or_right}
use Rattle.map_plane.specs.Meeting.{is_at}
use Rattle.map_plane.specs.Places.{placed, placed_lines}
use Rattle.map_plane.specs.declared.places.PlacedLine.{PlacedLine}
use Rattle.map_tables.specs.Tables.{Tables}
use Rattle.map_tables.specs.WellFormed.{nth_vertex}
use Rattle.map_areas.specs.Bordered.{are_walled, divides, faces_sector, has_on_left, has_on_right, is_wall_along, is_walled, leads}
use Rattle.map_areas.specs.Cuts.{IsWalled}
use Rattle.map_areas.specs.Drawings.{IsUnfaced, KeepsLine, IsWall, KeepsLines, KeepsLinesBut, KeepsWalls, side_on}
use Rattle.map_areas.specs.Ways.{is_left_of_way, sector_by_side, way}
use Rattle.map_areas.specs.declared.border.CutEdge.{CutEdge}

-- ---- lists

-- one of a list's items passes a test
pub passes_at : {X : Type 0} (f : X → Bool) (xs : List X) (n : ℕ) (x : X) → slice_get xs n ≡ Some x → f x ≡ true → list_any f xs ≡ true
passes_at f [] n x is h = cc
passes_at f (y ∷ xs) zero x is h = or_left (f y) (list_any f xs) (ap f (some_same is) ∙ h)
  where
    some_same : {X : Type 0} {a b : X} → Some a ≡ Some b → a ≡ b
    some_same e = cc
passes_at f (y ∷ xs) (suc n) x is h = or_right (f y) (list_any f xs) (passes_at f xs n x is h)

-- and if one does, which one it is
pub which_passes : {X : Type 0} (f : X → Bool) (xs : List X) → list_any f xs ≡ true → (n : ℕ) × (x : X) × (slice_get xs n ≡ Some x) × (f x ≡ true)
which_passes f [] h = cc
which_passes f (y ∷ xs) h =
    ⊎_elim
    (λ here. (zero, y, refl, here))
    (λ there. let r = which_passes f xs there in (suc r.0, r.1, r.2, r.3))
    (or_either (f y) (list_any f xs) h)

-- a line of a map with the places of its ends
line_of : (m : Tables) (n : ℕ) (p : PlacedLine) → slice_get (placed_lines m) n ≡ Some p → (l : Line) × (slice_get m.lines n ≡ Some l) × (p ≡ placed m (n, l))
line_of m n p is =
    ⊎_elim
    (λ there. (there.0, there.2, same (sym is ∙ placed_there m n there.0 there.2)))
    (λ past. let within = slice_get_within (placed_lines m) n p is in let size = length-placed_lines m in absurd (omega (arith, past.0, within, size)))
    (slice_get_cases m.lines n).1
  where
    same : {a b : PlacedLine} → Some a ≡ Some b → a ≡ b
    same e = cc

-- ---- a line of the map

apart : false ≡ true → ⊥
apart e = cc

some_inside : {X : Type 0} {a b : X} → Some a ≡ Some b → a ≡ b
some_inside e = cc

-- a side faces the sector
faces : (m : Tables) (side sector : ℕ) → faces_sector m side sector ≡ true → sector_by_side m side ≡ Some sector
faces m side sector h = by (slice_get m.sides side) h
  where
    by : (o : Option Side) → option_map_or (λ s. s.sector == sector) o false ≡ true → option_map (λ s. s.sector) o ≡ Some sector
    by None e = cc
    by (Some s) e = ⊎_elim (λ same. ap (λ k. Some k) same.1) (λ other. absurd (apart (sym other.0 ∙ e))) (eqb_tells s.sector sector)

is_facing : (m : Tables) (side sector : ℕ) → sector_by_side m side ≡ Some sector → faces_sector m side sector ≡ true
is_facing m side sector h = by (slice_get m.sides side) h
  where
    by : (o : Option Side) → option_map (λ s. s.sector) o ≡ Some sector → option_map_or (λ s. s.sector == sector) o false ≡ true
    by None e = cc
    by (Some s) e = ⊎_elim (λ same. same.0) (λ other. absurd (other.1 (some_inside e))) (eqb_tells s.sector sector)

not_facing : (m : Tables) (side sector : ℕ) → (sector_by_side m side ≡ Some sector → ⊥) → faces_sector m side sector ≡ false
not_facing m side sector h = by (faces_sector m side sector) (λ e. h (faces m side sector e))
  where
    by : (b : Bool) → (b ≡ true → ⊥) → b ≡ false
    by true k = absurd (k refl)
    by false k = refl

-- what a free line faces isn't the sector
pub free_of : (m : Tables) (sector : ℕ) (l : Line) (runs : Bool) → IsUnfaced m sector l → sector_by_side m (side_on runs l) ≡ Some sector → ⊥
free_of m sector l true free e = apart (sym free.right ∙ is_facing m l.right sector e)
free_of m sector l false free e = apart (sym free.left ∙ is_facing m l.left sector e)

-- ---- a line that leads the whole way

-- a line with the sector on the right of the way, and what was there on its left, is one that divides them
pub walled_by : (m new : Tables) (sector : ℕ) (faced : Option ℕ) (w : PlacedLine) (runs : Bool) → IsWall new sector faced w runs
    → (faced ≡ Some sector → ⊥) → is_left_of_way m w faced ≡ true → is_walled m new sector w ≡ true
walled_by m new sector faced w runs wall other left =
    passes_at (is_wall_along m new sector w) (placed_lines new) wall.number (placed new (wall.number, wall.line)) (placed_there new wall.number wall.line wall.there)
    (by runs wall.leads wall.inner wall.outer)
  where
    line : PlacedLine
    line = placed new (wall.number, wall.line)

    divided : (inner outer : ℕ) → sector_by_side new inner ≡ Some sector → sector_by_side new outer ≡ faced → divides m new sector w inner outer ≡ true
    divided inner outer a b =
        both (faces_sector new inner sector && not (faces_sector new outer sector)) (is_left_of_way m w (sector_by_side new outer))
        (both (faces_sector new inner sector) (not (faces_sector new outer sector)) (is_facing new inner sector a)
        (ap not (not_facing new outer sector (λ e. other (sym b ∙ e)))))
        (ap (is_left_of_way m w) b ∙ left)

    by : (r : Bool) → leads (if r then w.from else w.to) (if r then w.to else w.from) line ≡ true → sector_by_side new (side_on r wall.line) ≡ Some sector
        → sector_by_side new (side_on (not r) wall.line) ≡ faced → is_wall_along m new sector w line ≡ true
    by true way inner outer =
        or_left (leads w.from w.to line && has_on_right m new sector w wall.number) (leads w.to w.from line && has_on_left m new sector w wall.number)
        (both (leads w.from w.to line) (has_on_right m new sector w wall.number) way
        (ap (λ o. option_map_or (λ (l : Line). divides m new sector w l.right l.left) o false) wall.there ∙ divided wall.line.right wall.line.left inner outer))
    by false way inner outer =
        or_right (leads w.from w.to line && has_on_right m new sector w wall.number) (leads w.to w.from line && has_on_left m new sector w wall.number)
        (both (leads w.to w.from line) (has_on_left m new sector w wall.number) way
        (ap (λ o. option_map_or (λ (l : Line). divides m new sector w l.left l.right) o false) wall.there ∙ divided wall.line.left wall.line.right inner outer))

-- a line between two vertices leads between their places
pub leads_between : (t : Tables) (n : ℕ) (l : Line) (w : PlacedLine) (v1 v2 : ℕ) → l.v1 ≡ v1 → l.v2 ≡ v2 → slice_get t.vertices v1 ≡ Some w.from
    → slice_get t.vertices v2 ≡ Some w.to → leads w.from w.to (placed t (n, l)) ≡ true
leads_between t n l w v1 v2 e f from to =
    both (is_at (placed t (n, l)).from w.from) (is_at (placed t (n, l)).to w.to)
    (ap (λ v. is_at v w.from) (place l.v1 w.from (ap (slice_get t.vertices) e ∙ from)) ∙ is_at-same w.from w.from refl)
    (ap (λ v. is_at v w.to) (place l.v2 w.to (ap (slice_get t.vertices) f ∙ to)) ∙ is_at-same w.to w.to refl)
  where
    place : (k : ℕ) (p : Vertex) → slice_get t.vertices k ≡ Some p → nth_vertex t.vertices k ≡ p
    place k p is = get_or_from_slice_get t.vertices k p _ is

-- one of the map's sectors isn't the new one
pub other_sector : (o : Option ℕ) (m : Tables) (sector : ℕ) → IfSome o (λ s. s < length m.sectors) → sector ≡ length m.sectors → o ≡ Some sector → ⊥
other_sector None m sector h e is = cc
other_sector (Some s) m sector h e is = let same : s ≡ sector = some_inside is in absurd (omega (arith, h, e, same))

-- ---- as the drawing goes on

-- what a line and its sides say of a way
abbrev along : Tables → ℕ → PlacedLine → Vertex → Vertex → Line → Option Side → Option Side → Bool
along m sector w from to l right left =
    ((is_at from w.from && is_at to w.to) && d right left) || ((is_at from w.to && is_at to w.from) && d left right)
  where
    f : Option Side → Bool
    f o = option_map_or (λ s. s.sector == sector) o false

    d : Option Side → Option Side → Bool
    d inner outer = f inner && not (f outer) && is_left_of_way m w (option_map (λ s. s.sector) outer)

pub walls_but : (m t u : Tables) (sector k : ℕ) → KeepsLinesBut k t u → ((l : Line) → slice_get t.lines k ≡ Some l → IsUnfaced t sector l) → KeepsWalls m sector t u
walls_but m t u sector k keeps free w h =
    let found = which_passes (is_wall_along m t sector w) (placed_lines t) h in
    let n = found.0 in
    let is = line_of t n found.1 found.2 in
    let l = is.0 in
    let here : is_wall_along m t sector w (placed t (n, l)) ≡ true = ap (is_wall_along m t sector w) (sym is.2) ∙ found.3 in
    let kept : KeepsLine t u n l = keeps n l (λ same. in_use l (subst (λ i. slice_get t.lines i ≡ Some l) same is.1) n is.1 here) is.1 in
    passes_at (is_wall_along m u sector w) (placed_lines u) n (placed u (n, l)) (placed_there u n l kept.kept.line) (sym (same n l is.1 kept) ∙ here)
  where
    -- a line that divides them isn't free
    in_use : (l : Line) → slice_get t.lines k ≡ Some l → (n : ℕ) → slice_get t.lines n ≡ Some l → is_wall_along m t sector w (placed t (n, l)) ≡ true → ⊥
    in_use l at n is h =
        let fr = free l at in
        ⊎_elim
        (λ a. let p = and_both (leads w.from w.to (placed t (n, l))) (has_on_right m t sector w n) a in right l fr (sym (ap (λ o. option_map_or (λ (x : Line). divides m t sector w x.right x.left) o false) is) ∙ p.1))
        (λ b. let p = and_both (leads w.to w.from (placed t (n, l))) (has_on_left m t sector w n) b in left l fr (sym (ap (λ o. option_map_or (λ (x : Line). divides m t sector w x.left x.right) o false) is) ∙ p.1))
        (or_either (leads w.from w.to (placed t (n, l)) && has_on_right m t sector w n) (leads w.to w.from (placed t (n, l)) && has_on_left m t sector w n) h)
      where
        right : (x : Line) → IsUnfaced t sector x → divides m t sector w x.right x.left ≡ true → ⊥
        right x fr e =
            apart
            (sym fr.right
            ∙ (and_both (faces_sector t x.right sector) (not (faces_sector t x.left sector))
            (and_both (faces_sector t x.right sector && not (faces_sector t x.left sector)) (is_left_of_way m w (sector_by_side t x.left)) e).0).0)

        left : (x : Line) → IsUnfaced t sector x → divides m t sector w x.left x.right ≡ true → ⊥
        left x fr e =
            apart
            (sym fr.left
            ∙ (and_both (faces_sector t x.left sector) (not (faces_sector t x.right sector))
            (and_both (faces_sector t x.left sector && not (faces_sector t x.right sector)) (is_left_of_way m w (sector_by_side t x.right)) e).0).0)

    -- a line that is kept says the same
    same : (n : ℕ) (l : Line) → slice_get t.lines n ≡ Some l → KeepsLine t u n l → is_wall_along m t sector w (placed t (n, l)) ≡ is_wall_along m u sector w (placed u (n, l))
    same n l is kept =
        says t n l is
        ∙ (λ i. along m sector w (sym kept.from i) (sym kept.to i) l (sym kept.kept.right i) (sym kept.kept.left i))
        ∙ sym (says u n l kept.kept.line)
      where
        says : (v : Tables) (n : ℕ) (l : Line) → slice_get v.lines n ≡ Some l
            → is_wall_along m v sector w (placed v (n, l)) ≡ along m sector w (placed v (n, l)).from (placed v (n, l)).to l (slice_get v.sides l.right) (slice_get v.sides l.left)
        says v n l at = λ i.
            (leads w.from w.to (placed v (n, l)) && option_map_or (λ (x : Line). divides m v sector w x.right x.left) (at i) false)
            || (leads w.to w.from (placed v (n, l)) && option_map_or (λ (x : Line). divides m v sector w x.left x.right) (at i) false)

-- where each line is kept
pub walls_kept : (m t u : Tables) (sector : ℕ) → KeepsLines t u → KeepsWalls m sector t u
walls_kept m t u sector keeps = walls_but m t u sector (length t.lines) (λ n l apart is. keeps n l is) (λ l is. absurd (past l is))
  where
    past : (l : Line) → slice_get t.lines (length t.lines) ≡ Some l → ⊥
    past l is = let lt = slice_get_within t.lines (length t.lines) l is in omega (arith, lt)

pub walls_then : (m a b c : Tables) (sector : ℕ) → KeepsWalls m sector a b → KeepsWalls m sector b c → KeepsWalls m sector a c
walls_then m a b c sector p q w h = q w (p w h)

-- ---- edges

-- lines lead along what is left of an edge still
pub edge_kept : (m t u : Tables) (sector : ℕ) (e : PlacedLine) → KeepsWalls m sector t u → (from : Vertex) (ps : List Vertex)
    → are_walled m t sector e from ps ≡ true → are_walled m u sector e from ps ≡ true
edge_kept m t u sector e keeps from [] h = keeps (way from e.to) h
edge_kept m t u sector e keeps from (p ∷ ps) h =
    let two = and_both (is_walled m t sector (way from p)) (are_walled m t sector e p ps) h in
    both (is_walled m u sector (way from p)) (are_walled m u sector e p ps) (keeps (way from p) two.0) (edge_kept m t u sector e keeps p ps two.1)

-- so along each of some edges
pub edges_kept : (m t u : Tables) (sector : ℕ) (cs : List CutEdge) → KeepsWalls m sector t u → All (IsWalled m t sector) cs → All (IsWalled m u sector) cs
edges_kept m t u sector [] keeps h = All-nil (IsWalled m u sector)
edges_kept m t u sector (c ∷ cs) keeps h =
    All-cons (IsWalled m u sector) c cs (edge_kept m t u sector c.edge keeps c.edge.from c.cuts.items (All-head (IsWalled m t sector) c cs h))
    (edges_kept m t u sector cs keeps (All-tail (IsWalled m t sector) c cs h))
