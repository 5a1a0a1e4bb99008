use Rattle.std.proofs.Common.{◌≡◌, take, sym, ap, ◌∙◌, Option, arith}
use Rattle.std.proofs.lemmas.List.{take_all}
use Rattle.map_plane.specs.declared.places.PlacedLine.{PlacedLine}
use Rattle.std.specs.Prelude.{List}
use Rattle.std.specs.Option.{option_and_then}
use Rattle.map_plane.specs.Nearest.{nearest, nearer_of, sector_shown}
use Rattle.map_plane.specs.Places.{placed, placed_lines}
use Rattle.map_plane.proofs.LineReads.{is_there, placed_there, length-placed_lines}
use Rattle.map_plane.proofs.NearestSteps.{nearest_more}
use Rattle.map_plane.proofs.east.sector_at.Goals as goal

pub unwrap-line-requires : goal.unwrap-line-requires
unwrap-line-requires c = is_there c.args.map.now.tables.lines c.loop-n.n _ c.line.ensures.item (omega arith)

pub loop-n-preserved : goal.loop-n-preserved
loop-n-preserved c =
    let m = c.args.map.now.tables in
    let p = c.args.place in
    let there = placed_there m c.loop-n.n c.unwrap-line.result (sym c.line.ensures.item ∙ c.unwrap-line.ensures) in
    c.nearer_of-best.ensures
    ∙ ap (λ (o : Option PlacedLine). nearer_of p o c.placed.result) c.loop-n.invariant
    ∙ ap (nearer_of p (nearest (take c.loop-n.n (placed_lines m)) p)) c.placed.ensures
    ∙ sym (nearest_more (placed_lines m) p c.loop-n.n (placed m (c.loop-n.n, c.unwrap-line.result)) there)

pub returns : goal.returns
returns c =
    let m = c.args.map.now.tables in
    let p = c.args.place in
    let full : c.loop-n.best ≡ nearest (placed_lines m) p =
    c.loop-n.invariant
    ∙ ap (λ (ls : List PlacedLine). nearest ls p)
    (take_all c.loop-n.n (placed_lines m) (omega (arith, length-placed_lines m, c.count-n-end.ensures.number, c.loop-n-test.false))) in
    c.shown_by.ensures ∙ ap (option_and_then (sector_shown m p)) full
