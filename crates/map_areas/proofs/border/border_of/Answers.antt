use Rattle.std.proofs.Common.{List, ap, ◌∙◌, subst}
use Rattle.std.proofs.lemmas.List.Elements.{All-weaker}
use Rattle.map_areas.proofs.Cutting.{cut_stops}
use Rattle.map_areas.specs.Cuts.{IsCutWhereMet, IsCutWhole, is_cut_at}
use Rattle.map_areas.specs.Inside.{is_border_stop}
use Rattle.map_areas.specs.declared.border.CutEdge.{CutEdge}
use Rattle.map_areas.specs.Refusals.{CrossWhole}
use Rattle.map_plane.specs.Places.{placed_lines}
use Rattle.map_plane.specs.declared.places.PlacedLine.{PlacedLine}
use Rattle.map_areas.proofs.border.border_of.Goals as goal

pub returns-clause-whole : goal.returns-clause-whole
returns-clause-whole c =
    subst (λ (es : List PlacedLine). CrossWhole (placed_lines c.args.map.now.tables) es) c.deref-2.ensures.value c.in_ok-cut_edges.ensures.whole

pub returns-clause-stops : goal.returns-clause-stops
returns-clause-stops c =
    let m = c.args.map.now.tables in
    λ p. c.in_ok-stops.ensures p ∙ ap (λ (cs : List CutEdge). is_cut_at cs p) c.deref-3.ensures.value
    ∙ cut_stops m c.in_ok-cut_edges.cut_edges.items
    (All-weaker (IsCutWhole m) (IsCutWhereMet m) (λ k w. w.met) c.in_ok-cut_edges.cut_edges.items c.in_ok-cut_edges.ensures.cut) p
    ∙ ap (λ (es : List PlacedLine). is_border_stop m es p) (c.in_ok-cut_edges.ensures.edges ∙ c.deref-2.ensures.value)
