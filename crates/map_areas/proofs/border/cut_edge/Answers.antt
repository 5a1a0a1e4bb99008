use Rattle.std.proofs.Common.{ℕ, ◌&&◌, ◌||◌, List, ap, ◌∙◌, subst}
use Rattle.std.specs.List.{list_any}
use Rattle.lump_records.specs.declared.records.Vertex.{Vertex}
use Rattle.map_areas.proofs.Cutting.{met_there}
use Rattle.map_areas.specs.Refusals.{CrossesBetween}
use Rattle.map_areas.specs.Stops.{crosses_at}
use Rattle.map_areas.specs.Ways.{is_between}
use Rattle.map_plane.specs.Meeting.{is_at}
use Rattle.map_plane.specs.declared.places.PlacedLine.{PlacedLine}
use Rattle.map_areas.proofs.border.cut_edge.Goals as goal

pub returns-clause-cut : goal.returns-clause-cut
returns-clause-cut c =
    let e = c.args.edge.now in
    record {
      long = c.requires.long;
      met =
          λ p. met_there c.args.map.now.tables e p _ _
          (c.in_ok-put_crossings.ensures.those p
          ∙ ap (λ (ls : List PlacedLine). list_any (is_at p) c.in_ok-cuts.cuts.items || (is_between e p && list_any (crosses_at e p) ls)) (c.deref-2.ensures.value ∙ c.requires.lines))
          (c.in_ok-cuts.ensures.those p ∙ ap (λ (vs : List Vertex). is_between e p && list_any (is_at p) vs) (c.deref.ensures.value ∙ c.requires.vertices));
      order = c.in_ok-put_crossings.ensures.order c.in_ok-cuts.ensures.order;
      whole =
          subst (λ (ls : List PlacedLine). (n : ℕ) → CrossesBetween ls e n → ⊥) (c.deref-2.ensures.value ∙ c.requires.lines) c.in_ok-put_crossings.ensures.whole;
    }

pub returns-clause-whole : goal.returns-clause-whole
returns-clause-whole c =
    subst (λ (ls : List PlacedLine). (n : ℕ) → CrossesBetween ls c.args.edge.now n → ⊥) (c.deref-2.ensures.value ∙ c.requires.lines)
    c.in_ok-put_crossings.ensures.whole
