use Rattle.std.proofs.Common.{◌≡◌, ◌∙◌, sym, ap, List, Bool, true, false, ◌&&◌, ◌||◌, not, refl}
use Rattle.std.specs.List.{list_any}
use Rattle.map_plane.proofs.Tests.{and_both}
use Rattle.map_plane.specs.Places.{placed_lines}
use Rattle.map_plane.specs.declared.places.PlacedLine.{PlacedLine}
use Rattle.map_areas.proofs.Any.{any_none}
use Rattle.map_areas.specs.Ways.{faces_left, is_same, left_faced, runs_along, sector_between}
use Rattle.map_areas.proofs.ways.is_left_of_way.Goals as goal

lined : (a l s : Bool) → l ≡ true → a ≡ (a || (not l && s))
lined true l s h = refl
lined false true s h = refl
lined false false s h = cc

unlined : (a l s : Bool) → a ≡ false → l ≡ false → s ≡ (a || (not l && s))
unlined false false s g h = refl
unlined true l s g h = cc
unlined false true s g h = cc

pub returns-then-is_lined : goal.returns-then-is_lined
returns-then-is_lined c =
    let m = c.args.map.now.tables in
    let w = c.args.way.now in
    let s = c.args.sector in
    let along : list_any (runs_along w) (placed_lines m) ≡ true =
    ap (λ (ls : List PlacedLine). list_any (runs_along w) ls) (sym (c.deref.ensures.value ∙ c.requires.lines)) ∙ sym c.is_lined.ensures ∙ c.if-is_lined.true in
    c.is_faced.ensures ∙ ap (λ (ls : List PlacedLine). list_any (faces_left m w s) ls) (c.deref-then-is_lined.ensures.value ∙ c.requires.lines)
    ∙ lined (list_any (faces_left m w s) (placed_lines m)) (list_any (runs_along w) (placed_lines m)) (is_same (sector_between m w) s) along

pub returns-else-is_lined : goal.returns-else-is_lined
returns-else-is_lined c =
    let m = c.args.map.now.tables in
    let w = c.args.way.now in
    let s = c.args.sector in
    let along : list_any (runs_along w) (placed_lines m) ≡ false =
    ap (λ (ls : List PlacedLine). list_any (runs_along w) ls) (sym (c.deref.ensures.value ∙ c.requires.lines)) ∙ sym c.is_lined.ensures ∙ c.if-is_lined.false in
    let none : list_any (faces_left m w s) (placed_lines m) ≡ false =
    any_none (faces_left m w s) (runs_along w) (placed_lines m) (λ l h. (and_both (runs_along w l) (is_same (left_faced m w l) s) h).0) along in
    c.is_same.ensures ∙ ap (λ o. is_same o s) c.sector_between.ensures
    ∙ unlined (list_any (faces_left m w s) (placed_lines m)) (list_any (runs_along w) (placed_lines m)) (is_same (sector_between m w) s) none along
