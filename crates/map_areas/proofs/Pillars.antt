-- The commands that draw a pillar.
use Rattle.std.proofs.Common.{◌≡◌, ℕ, zero, suc, ◌+◌, ◌<◌, ◌≤◌, All, Bool, true, false, ◌||◌, List, [], ◌∷◌, ◌++◌, get_or, length, map, reverse, nat_lt, Option, Some, None, refl, ap, ◌∙◌, arith, zero-add, length-append}
use Rattle.std.specs.List.{enumerate_from, slice_get}
use Rattle.std.specs.Option.{option_map, option_or}
use Rattle.std.specs.Prelude.{flat_map, if◌then◌else◌, option_and_then, pos}
use Rattle.std.specs.Ordering.{int_eq}
use Rattle.std.proofs.lemmas.Bool.Decides.{nat_tests}
use Rattle.std.proofs.lemmas.List.{length-reverse, length-map}
use Rattle.std.proofs.lemmas.List.Elements.{All-append, All-cons, All-head, All-nil, All-same, All-tail}
use Rattle.std.proofs.lemmas.List.FromFn.{length-enumerate_from, get_or-enumerate_from}
use Rattle.std.proofs.lemmas.List.Sorted.{All-permutation, IsPermutation-reverse}
use Rattle.lump_records.specs.declared.records.Line.{Line}
use Rattle.lump_records.specs.declared.records.Name8.{Name8}
use Rattle.lump_records.specs.declared.records.Side.{Side}
use Rattle.lump_records.specs.declared.records.Vertex.{Vertex}
use Rattle.map_plane.specs.Nearest.{nearest, sector_of_place, sector_shown, side_shown}
use Rattle.map_plane.specs.Places.{placed_lines}
use Rattle.map_plane.specs.Polygon.{polygon_area}
use Rattle.map_plane.specs.declared.places.PlacedLine.{PlacedLine}
use Rattle.map_tables.specs.Ranges.{IsSide, IsVertex}
use Rattle.map_tables.specs.Tables.{Tables}
use Rattle.map_tables.specs.WellFormed.{WellFormed}
use Rattle.map_tables.specs.declared.edit.Item.TheVariants as item
use Rattle.map_commands.specs.Rooms.{wall}
use Rattle.map_commands.specs.Step.{after}
use Rattle.map_commands.specs.declared.command.Command.{Command}
use Rattle.map_areas.specs.Drawn.{LeadTo, drawn}
use Rattle.map_areas.specs.Outlines.{bad_corner, edge_from, edges_round, first_corner, lacks_area, outline_edges, runs_clockwise}
use Rattle.map_areas.specs.Pillars.{addition, corner_drawn, corners_drawn, edge_drawn, next_position, pillar_drawn, solid_side, wall_drawn, walls_drawn}
use Rattle.map_areas.specs.Refusals.{AreInSector}
use Rattle.map_areas.specs.Stays.{Draws, KeepsItems}
use Rattle.map_areas.proofs.Keeping.{keeps_drawing}

-- ---- Its edges

numbered_in_range : (all cs : List Vertex) (n : ℕ) → All IsVertex cs → All (λ e. IsVertex e.from) (map (edge_from all) (enumerate_from n cs))
numbered_in_range all [] n h = All-nil (λ e. IsVertex e.from)
numbered_in_range all (c ∷ cs) n h =
    All-cons (λ e. IsVertex e.from) (edge_from all (n, c)) (map (edge_from all) (enumerate_from (n + 1) cs)) (All-head IsVertex c cs h)
    (numbered_in_range all cs (n + 1) (All-tail IsVertex c cs h))

-- the edges of corners in range begin in range
pub corners_in_range : (cs : List Vertex) → All IsVertex cs → All (λ e. IsVertex e.from) (edges_round false cs)
corners_in_range cs h = by (runs_clockwise (outline_edges cs))
  where
    turned : All IsVertex (reverse cs)
    turned = All-permutation IsVertex cs (reverse cs) (IsPermutation-reverse cs) h

    by : (t : Bool) → All (λ e. IsVertex e.from) (if t then outline_edges (reverse cs) else outline_edges cs)
    by true = numbered_in_range (reverse cs) (reverse cs) 0 turned
    by false = numbered_in_range cs cs 0 h

pub length-outline : (cs : List Vertex) → length (outline_edges cs) ≡ length cs
length-outline cs = length-map (enumerate_from 0 cs) (edge_from cs) ∙ length-enumerate_from 0 cs

none_of : (o : Option Vertex) (b : Bool) (v : Vertex) → option_or o (if b then Some v else None) ≡ None → b ≡ false
none_of (Some w) b v h = cc
none_of None true v h = cc
none_of None false v h = refl

enough : (n : ℕ) (b : Bool) → (nat_lt n 3 || b) ≡ false → 0 < n
enough n b h = grind (arith, nat_tests)

-- a simple polygon has edges
pub some_edges : (cs : List Vertex) → bad_corner (outline_edges cs) ≡ None → 0 < length (edges_round false cs)
some_edges cs h = by (runs_clockwise (outline_edges cs))
  where
    lt : 0 < length (outline_edges cs)
    lt =
        let es = outline_edges cs in
        enough (length es) (int_eq (polygon_area es) (pos 0)) (none_of _ (lacks_area es) (first_corner es) h)

    by : (t : Bool) → 0 < length (if t then outline_edges (reverse cs) else outline_edges cs)
    by true = omega (arith, lt, length-outline cs, length-outline (reverse cs), length-reverse cs)
    by false = lt

-- ---- Its sector

side_in_range : (ts : List Side) (k s : ℕ) → All IsSide ts → option_map (λ t. t.sector) (slice_get ts k) ≡ Some s → s ≤ 4095
side_in_range [] k s all h = cc
side_in_range (t ∷ ts) zero s all h =
    let le = (All-head IsSide t ts all).sector in
    let e : t.sector ≡ s = cc in
    omega (arith, le, e)
side_in_range (t ∷ ts) (suc k) s all h = side_in_range ts k s (All-tail IsSide t ts all) h

line_in_range : (m : Tables) (s : ℕ) (p : Vertex) (l : PlacedLine) (o : Option Line) → WellFormed m
    → option_and_then (λ line. option_map (λ t. t.sector) (slice_get m.sides (side_shown l p.y line))) o ≡ Some s → s ≤ 4095
line_in_range m s p l None wf h = cc
line_in_range m s p l (Some line) wf h = side_in_range m.sides (side_shown l p.y line) s wf.sides h

shown_in_range : (m : Tables) (s : ℕ) (p : Vertex) (o : Option PlacedLine) → WellFormed m → option_and_then (sector_shown m p) o ≡ Some s → s ≤ 4095
unfolding sector_shown
shown_in_range m s p None wf h = cc
shown_in_range m s p (Some l) wf h = line_in_range m s p l (slice_get m.lines l.number) wf h

-- a place's sector is in range
pub sector_in_range : (m : Tables) (s : ℕ) (p : Vertex) → WellFormed m → sector_of_place m p ≡ Some s → s ≤ 4095
sector_in_range m s p wf h = shown_in_range m s p (nearest (placed_lines m) p) wf h

-- that of all corners of some
pub corners_sector : (m : Tables) (es : List PlacedLine) (s : ℕ) → WellFormed m → 0 < length es → AreInSector m es s → s ≤ 4095
corners_sector m [] s wf some all = absurd (omega arith)
corners_sector m (e ∷ es) s wf some all = sector_in_range m s e.from wf (All-head (λ (l : PlacedLine). sector_of_place m l.from ≡ Some s) e es all)

-- ---- Its commands

-- a corner's commands
abbrev pub corner_alone : PlacedLine → List Command
corner_alone e = corner_drawn e ∷ []

-- how many vertices and sides there are once the corners are drawn
pub corners_counted : (old : Tables) (es : List PlacedLine) (new : Tables) → LeadTo old (corners_drawn es) new
    → (length new.vertices ≡ length old.vertices + length es) × (length new.sides ≡ length old.sides)
corners_counted old [] new h =
    let vertices : length new.vertices ≡ length old.vertices = ap (λ (t : Tables). length t.vertices) h in
    (omega (arith, vertices), ap (λ (t : Tables). length t.sides) h)
corners_counted old (e ∷ es) new h =
    let rest = corners_counted (after old (corner_drawn e)) es new h.2 in
    let one : length (old.vertices ++ e.from ∷ []) ≡ length old.vertices + 1 = length-append old.vertices (e.from ∷ []) in
    (omega (arith, rest.0, one), rest.1)

-- and how many sides once a wall is
pub wall_counted : (old : Tables) (side : Side) (v1 v2 right : ℕ) (new : Tables) → LeadTo old (wall_drawn side v1 v2 right) new
    → length new.sides ≡ length old.sides + 1
wall_counted old side v1 v2 right new h =
    ap (λ (t : Tables). length t.sides) h.2.2 ∙ length-append old.sides (side ∷ [])

-- the wall of the edge at a position
pub edge_at : (side : Side) (vertices sides : ℕ) (es : List PlacedLine) (n : ℕ) (d : ℕ × PlacedLine) → n < length es
    → edge_drawn side vertices sides (length es) (get_or (enumerate_from 0 es) n d)
    ≡ wall_drawn side (vertices + n) (vertices + next_position (length es) n) (sides + n)
edge_at side vertices sides es n d lt =
    ap (edge_drawn side vertices sides (length es)) (get_or-enumerate_from 0 es n d lt)
    ∙ (λ i. edge_drawn side vertices sides (length es) (zero-add n i, get_or es n d.1))

-- some pair of a number and an edge
pub some_pair : ℕ × PlacedLine
some_pair = (0, record { number = 0; from = record { x = pos 0; y = pos 0 }; to = record { x = pos 0; y = pos 0 }; is_wall = false })

-- walls that are drawn after the corners are those of the pillar
pub same_walls : (m copy mid : Tables) (es : List PlacedLine) (texture : Name8) (sector : ℕ) (side : Side) (vertices : ℕ) → copy ≡ m → side ≡ solid_side texture sector
    → vertices ≡ length copy.vertices → LeadTo copy (corners_drawn es) mid
    → walls_drawn side vertices (length mid.sides) es ≡ walls_drawn (solid_side texture sector) (length m.vertices) (length m.sides) es
same_walls m copy mid es texture sector side vertices is its number led =
    let first : vertices ≡ length m.vertices = number ∙ ap (λ (t : Tables). length t.vertices) is in
    let sides : length mid.sides ≡ length m.sides = (corners_counted copy es mid led).1 ∙ ap (λ (t : Tables). length t.sides) is in
    λ i. walls_drawn (its i) (first i) (sides i) es

-- each of them draws
corners_draw : (es : List PlacedLine) → All Draws (corners_drawn es)
corners_draw [] = All-nil Draws
corners_draw (e ∷ es) = All-cons Draws (corner_drawn e) (corners_drawn es) tt (corners_draw es)

walls_draw : (side : Side) (vertices sides count : ℕ) (xs : List (ℕ × PlacedLine)) → All Draws (flat_map (edge_drawn side vertices sides count) xs)
walls_draw side vertices sides count [] = All-nil Draws
walls_draw side vertices sides count (x ∷ xs) =
    let rest = flat_map (edge_drawn side vertices sides count) xs in
    let line = addition (item.Line (wall (vertices + x.0) (vertices + next_position count x.0) (sides + x.0))) in
    All-cons Draws (addition (item.Side side)) (line ∷ rest) tt (All-cons Draws line rest tt (walls_draw side vertices sides count xs))

-- so they keep what is there
pub pillar_keeps : (m : Tables) (es : List PlacedLine) (texture : Name8) (sector : ℕ) (cs : List Command) → cs ≡ pillar_drawn m es texture sector
    → KeepsItems m (drawn m cs)
pillar_keeps m es texture sector cs is =
    let walls = walls_drawn (solid_side texture sector) (length m.vertices) (length m.sides) es in
    keeps_drawing m cs
    (All-same Draws cs (corners_drawn es ++ walls) is
    (All-append Draws (corners_drawn es) walls (corners_draw es)
    (walls_draw (solid_side texture sector) (length m.vertices) (length m.sides) (length es) (enumerate_from 0 es))))
