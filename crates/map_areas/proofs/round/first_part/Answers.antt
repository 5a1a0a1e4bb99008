use Rattle.std.proofs.Common.{◌≡◌, ap, ◌∙◌, List, Option}
use Rattle.lump_records.specs.declared.records.Vertex.{Vertex}
use Rattle.map_plane.specs.declared.places.PlacedLine.{PlacedLine}
use Rattle.std.specs.List.{slice_get}
use Rattle.std.specs.Prelude.{unwrap_or}
use Rattle.map_plane.proofs.Tests.{both}
use Rattle.map_areas.proofs.Rests.{first_unmet}
use Rattle.map_areas.proofs.Standing.{same_itself}
use Rattle.map_areas.specs.Cuts.{leads_unmet}
use Rattle.map_areas.specs.Ways.{is_same, sector_on_right, way}
use Rattle.map_areas.proofs.round.first_part.Goals as goal

pub returns : goal.returns
returns c =
    let m = c.args.map.now.tables in
    let e = c.args.cut.now.edge in
    let to : c.unwrap_or-to.result ≡ unwrap_or (slice_get c.args.cut.now.cuts.items 0) e.to =
    c.unwrap_or-to.ensures ∙ ap (λ (o : Option Vertex). unwrap_or o e.to) (c.copied.ensures ∙ c.first.ensures.value)
    ∙ ap (λ (vs : List Vertex). unwrap_or (slice_get vs 0) e.to) c.deref.ensures.value in
    let w = way e.from c.unwrap_or-to.result in
    both (leads_unmet m e w) (is_same (sector_on_right m w) c.sector_on_right.result)
    (ap (λ (v : Vertex). leads_unmet m e (way e.from v)) to ∙ first_unmet m c.args.cut.now c.requires.cut)
    (ap (is_same (sector_on_right m w)) (c.sector_on_right.ensures ∙ ap (λ (k : PlacedLine). sector_on_right m k) c.way.ensures) ∙ same_itself (sector_on_right m w))
