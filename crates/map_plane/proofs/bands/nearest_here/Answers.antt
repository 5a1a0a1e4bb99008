use Rattle.std.proofs.Common.{List, [], ap, ◌∙◌, arith}
use Rattle.std.proofs.lemmas.List.{get_or_default}
use Rattle.map_plane.specs.declared.places.PlacedLine.{PlacedLine}
use Rattle.map_plane.specs.Nearest.{nearest}
use Rattle.map_plane.proofs.BandLemmas.{nearest_in_band}
use Rattle.map_plane.proofs.bands.nearest_here.Goals as goal

pub returns : goal.returns
returns c =
    let place = c.args.place in
    let band = c.band_at.result in
    c.nearest.ensures
    ∙ ap (λ (ls : List PlacedLine). nearest ls place)
    (c.lines.ensures ∙ c.index.ensures
    ∙ get_or_default c.args.filed.now.bands.items band c.index.result.now [] (omega (arith, c.band_at.ensures.among, c.requires.count))
    ∙ c.requires.filed band c.band_at.ensures.among)
    ∙ nearest_in_band c.args.filed.now.lines.items place band c.band_at.ensures
