-- The lines of each sector, one more line at a time.
use Rattle.std.proofs.Common.{◌≡◌, ◌∙◌, refl, sym, ap, ℕ, ◌+◌, ◌<◌, Bool, true, false, List, [], ◌∷◌, ◌++◌, length, get_or, Option, Some, replicate, arith, append-nil}
use Rattle.std.specs.Prelude.{◌&&◌, ◌==◌, ◌||◌, if◌then◌else◌, flat_map, slice_get}
use Rattle.std.specs.Option.{option_map_or}
use Rattle.std.proofs.lemmas.Grind.{common_steps, flat_map-append}
use Rattle.lump_records.specs.declared.records.Line.{Line}
use Rattle.map_tables.specs.Tables.{Tables}
use Rattle.map_picture.specs.Borders.{AreBorders, FilesBorder, filed}
use Rattle.lump_records.specs.Sides.{has_left}
use Rattle.map_svg.specs.Places.{spot_of}
use Rattle.map_tables.specs.WellFormed.{nth_vertex}
use Rattle.map_picture.specs.Fills.{border_text, edge_text, nth_border}
use Rattle.map_picture.specs.Items.{sector_of}
use Rattle.map_picture.specs.Numbers.{bounds}
use Rattle.map_picture.proofs.Growth.{listed_more}

-- a line that doesn't have the sector on a side has no edge of it
no_edge : (a b : Bool) (x y : List ℕ) → (a || b) ≡ false → (if a then (if b then [] else x) else (if b then y else [])) ≡ []
no_edge true b x y e = absurd cc
no_edge false true x y e = absurd cc
no_edge false false x y e = refl

no_border : (m : Tables) (s : ℕ) (l : Line) → bounds m s l ≡ false → border_text m s l ≡ []
no_border m s l e =
    let from = spot_of (nth_vertex m.vertices l.v1) in
    let to = spot_of (nth_vertex m.vertices l.v2) in
    no_edge (sector_of m l.right == s) (has_left l && (sector_of m l.left == s)) (edge_text from to) (edge_text to from) e

-- the edges along a list of lines, with one line more if it has the sector on a side
pub edges_more : (m : Tables) (n s : ℕ) (l : Line) (ns : List ℕ) → slice_get m.lines n ≡ Some l → flat_map (nth_border m s) (filed m n l s ns) ≡ flat_map (nth_border m s) ns ++ nth_border m s n
edges_more m n s l ns there = by (bounds m s l) refl
  where
    by : (b : Bool) → bounds m s l ≡ b → flat_map (nth_border m s) (if b then ns ++ n ∷ [] else ns) ≡ flat_map (nth_border m s) ns ++ nth_border m s n
    by true e = flat_map-append (nth_border m s) ns (n ∷ []) ∙ ap (λ (t : List ℕ). flat_map (nth_border m s) ns ++ t) (append-nil (nth_border m s n))
    by false e =
        let none : nth_border m s n ≡ [] = ap (λ (o : Option Line). option_map_or (border_text m s) o []) there ∙ no_border m s l e in
        sym (append-nil (flat_map (nth_border m s) ns)) ∙ ap (λ (t : List ℕ). flat_map (nth_border m s) ns ++ t) (sym none)

-- before the first line
pub no_borders : (m : Tables) (k : ℕ) → k ≡ length m.sectors → AreBorders m 0 (replicate k [])
no_borders m k same =
    record {
      count = grind (arith, common_steps);
      edges = λ s among. let none : get_or (replicate k []) s [] ≡ [] = grind (arith, common_steps) in ap (flat_map (nth_border m s)) none;
    }

-- after one more line
pub borders_more : (m : Tables) (n : ℕ) (l : Line) (old new : List (List ℕ)) → slice_get m.lines n ≡ Some l → AreBorders m n old → FilesBorder m n l old new → AreBorders m (n + 1) new
borders_more m n l old new there so_far files =
    record {
      count = files.count ∙ so_far.count;
      edges = λ s among.
          let within : s < length old = omega (arith, files.count) in
          ap (flat_map (nth_border m s)) (files.lines s within) ∙ edges_more m n s l (get_or old s []) there
          ∙ ap (λ (t : List ℕ). t ++ nth_border m s n) (so_far.edges s within)
          ∙ sym (listed_more (nth_border m s) n);
    }
