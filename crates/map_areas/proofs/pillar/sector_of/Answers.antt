use Rattle.std.proofs.Common.{◌≡◌, All, List, Some, sym, ◌∙◌, subst}
use Rattle.std.proofs.lemmas.List.{take_all}
use Rattle.std.proofs.lemmas.List.Elements.{All-more}
use Rattle.map_plane.specs.Nearest.{sector_of_place}
use Rattle.map_plane.specs.declared.places.PlacedLine.{PlacedLine}
use Rattle.map_areas.proofs.Standing.{apart_in_two, apart_in_void, same_sector}
use Rattle.map_areas.proofs.pillar.sector_of.Goals as goal

pub loop-edge-preserved : goal.loop-edge-preserved
loop-edge-preserved c =
    let m = c.args.map.now.tables in
    let s = c.in-Some.sector in
    All-more (λ e. sector_of_place m e.from ≡ Some s) c.args.edges.now c.loop-edge.edge-index _ c.loop-edge-test.true c.loop-edge.invariant
    (sym c.part_at-part.ensures.sector ∙ same_sector s c.part_at-part.result.sector (sym c.is_same.ensures ∙ c.if-not-is_same.false))

pub returns-clause-same : goal.returns-clause-same
returns-clause-same c =
    subst (λ (es : List PlacedLine). All (λ e. sector_of_place c.args.map.now.tables e.from ≡ Some c.in-Some.sector) es)
    (take_all c.loop-edge.edge-index c.args.edges.now c.loop-edge-test.false) c.loop-edge.invariant

pub returns-in_default-clause-reason : goal.returns-in_default-clause-reason
returns-in_default-clause-reason c =
    apart_in_void c.args.map.now.tables c.args.edges.now _ c.part_at-first.result c.requires c.part_at-first.ensures.from c.part_at-first.ensures.to
    c.part_at-first.ensures.sector c.in_default.is

pub returns-then-not-is_same-clause-reason : goal.returns-then-not-is_same-clause-reason
returns-then-not-is_same-clause-reason c =
    apart_in_two c.args.map.now.tables c.args.edges.now _ c.part_at-first.result c.loop-edge.edge-index _ c.part_at-part.result c.in-Some.sector c.requires
    c.part_at-first.ensures.from c.part_at-first.ensures.to c.part_at-first.ensures.sector c.in-Some.is c.loop-edge-test.true c.part_at-part.ensures.from
    c.part_at-part.ensures.to c.part_at-part.ensures.sector (sym c.is_same.ensures ∙ c.if-not-is_same.true)
