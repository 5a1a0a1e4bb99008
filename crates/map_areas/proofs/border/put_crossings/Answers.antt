use Rattle.std.proofs.Common.{◌≡◌, ◌<◌, ◌≤◌, ◌&&◌, ◌||◌, List, length, ap, ◌∙◌, arith, below_more}
use Rattle.std.specs.List.{list_any}
use Rattle.std.proofs.lemmas.List.{take_all}
use Rattle.map_plane.proofs.LineReads.{length-placed_lines}
use Rattle.map_plane.specs.Meeting.{is_at}
use Rattle.map_plane.specs.declared.places.PlacedLine.{PlacedLine}
use Rattle.map_areas.proofs.Crossings.{crosses_all}
use Rattle.map_areas.proofs.Cutting.{crossings_more}
use Rattle.map_areas.specs.Refusals.{CrossesBetween}
use Rattle.map_areas.specs.Stops.{crosses_at}
use Rattle.map_areas.specs.Ways.{is_between}
use Rattle.map_areas.proofs.border.put_crossings.Goals as goal

pub loop-n-preserved : goal.loop-n-preserved
loop-n-preserved c =
    let ls = c.args.lines.now in
    let below : c.loop-n.n < length c.args.map.now.tables.lines = omega arith in
    let size : length ls ≡ length c.args.map.now.tables.lines = ap length c.requires ∙ length-placed_lines c.args.map.now.tables in
    let lt : c.loop-n.n < length ls = omega (arith, below, size) in
    record {
      those = λ p. crossings_more c.args.edge.now ls c.loop-n.n lt p _ _ _ (c.in-Ok.ensures.those p) (c.loop-n.invariant.those p);
      order = λ h. c.in-Ok.ensures.order (c.loop-n.invariant.order h);
      whole = below_more (λ k. CrossesBetween ls c.args.edge.now k → ⊥) c.loop-n.n c.loop-n.invariant.whole c.in-Ok.ensures.whole;
    }

pub returns-clause-those : goal.returns-clause-those
returns-clause-those c =
    let ls = c.args.lines.now in
    let e = c.args.edge.now in
    let past : length c.args.map.now.tables.lines ≤ c.loop-n.n = omega arith in
    let size : length ls ≡ length c.args.map.now.tables.lines = ap length c.requires ∙ length-placed_lines c.args.map.now.tables in
    let le : length ls ≤ c.loop-n.n = omega (arith, past, size) in
    λ p. c.loop-n.invariant.those p
    ∙ ap (λ (ks : List PlacedLine). list_any (is_at p) c.args.stops.now.items || (is_between e p && list_any (crosses_at e p) ks)) (take_all c.loop-n.n ls le)

pub returns-clause-whole : goal.returns-clause-whole
returns-clause-whole c =
    crosses_all c.args.map.now.tables c.args.lines.now c.args.edge.now c.loop-n.n c.requires (omega arith) c.loop-n.invariant.whole
