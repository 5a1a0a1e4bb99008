use Rattle.std.proofs.Common.{◌≡◌, ◌<◌, List, Some, None, length, sym, ap, ◌∙◌, subst}
use Rattle.std.specs.Option.{IfSome}
use Rattle.std.specs.Prelude.{find}
use Rattle.map_plane.specs.Places.{placed_lines}
use Rattle.map_plane.specs.declared.places.PlacedLine.{PlacedLine}
use Rattle.map_areas.specs.Ways.{is_left_of_way, runs_along}
use Rattle.map_tables.specs.Tables.{Tables}
use Rattle.map_areas.proofs.Facing.{left_along, left_here, left_led}
use Rattle.map_areas.proofs.ways.left_of_way.Goals as goal

none_found : (m : Tables) (w : PlacedLine) (ls : List PlacedLine) → ls ≡ placed_lines m → None ≡ find (runs_along w) ls → find (runs_along w) (placed_lines m) ≡ None
none_found m w ls same e = ap (λ (ls : List PlacedLine). find (runs_along w) ls) (sym same) ∙ sym e

pub returns-in-Some-clause-left : goal.returns-in-Some-clause-left
returns-in-Some-clause-left c =
    let m = c.args.map.now.tables in
    let w = c.args.way.now in
    let found : find (runs_along w) (placed_lines m) ≡ Some c.in-Some.line =
    ap (λ (ls : List PlacedLine). find (runs_along w) ls) (sym (c.deref.ensures.value ∙ c.requires.lines)) ∙ sym c.in-Some.ensures in
    ap (is_left_of_way m w) c.left_faced.ensures ∙ left_along m w c.in-Some.line found

pub returns-in-Some-clause-sector : goal.returns-in-Some-clause-sector
returns-in-Some-clause-sector c =
    let m = c.args.map.now.tables in
    subst (λ o. IfSome o (λ n. n < length m.sectors)) (sym c.left_faced.ensures) (left_here m c.args.way.now c.in-Some.line c.requires.well_formed)

pub returns-in-None-clause-left : goal.returns-in-None-clause-left
returns-in-None-clause-left c =
    let m = c.args.map.now.tables in
    let w = c.args.way.now in
    (left_led m w c.args.round (none_found m w c.deref.result.now (c.deref.ensures.value ∙ c.requires.lines) c.in-None.ensures) c.requires.led c.requires.well_formed).0

pub returns-in-None-clause-sector : goal.returns-in-None-clause-sector
returns-in-None-clause-sector c =
    let m = c.args.map.now.tables in
    let w = c.args.way.now in
    (left_led m w c.args.round (none_found m w c.deref.result.now (c.deref.ensures.value ∙ c.requires.lines) c.in-None.ensures) c.requires.led c.requires.well_formed).1
