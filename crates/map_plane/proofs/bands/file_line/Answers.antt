use Rattle.std.proofs.Common.{◌≡◌, ◌<◌, ◌+◌, List, [], ◌∷◌, ◌++◌, get_or, subst, sym, ap, ◌∙◌, arith}
use Rattle.std.proofs.Math.ListN.{set}
use Rattle.std.proofs.lemmas.List.{get_or_default}
use Rattle.map_plane.specs.declared.places.PlacedLine.{PlacedLine}
use Rattle.map_plane.proofs.FilingSteps.{FiledTo, in_bands, filed_none, filed_more, filed_all}
use Rattle.map_plane.proofs.bands.file_line.Goals as goal

pub loop-band-init : goal.loop-band-init
loop-band-init c = filed_none c.args.line c.first_band-first.result c.args.bands.now c.first_band-first.ensures

pub loop-band-preserved : goal.loop-band-preserved
loop-band-preserved c =
    let line = c.args.line in
    let bands = c.loop-band.bands in
    let band = c.loop-band.band in
    let among : band < 512 = omega (arith, c.loop-band-test.true, c.last_band-last.ensures.among) in
    let here = in_bands line c.first_band-first.result c.last_band-last.result band c.first_band-first.ensures c.last_band-last.ensures c.loop-band.auto.band (omega (arith, c.loop-band-test.true)) in
    let longer : c.push.new.self ≡ get_or bands band [] ++ line ∷ [] =
    c.in_ok-push.ensures
    ∙ ap (λ (xs : List PlacedLine). xs ++ line ∷ [])
    (get_or_default bands band c.index-bands-band.result [] (omega (arith, among, c.loop-band.auto.bands, c.requires))) in
    subst (λ (xs : List PlacedLine). FiledTo line (band + 1) c.args.bands.now (set bands band xs)) (sym longer)
    (filed_more line band c.args.bands.now bands c.requires among here c.loop-band.invariant)

pub returns : goal.returns
returns c =
    filed_all c.args.line c.last_band-last.result c.loop-band.band c.args.bands.now c.loop-band.bands c.last_band-last.ensures (omega (arith, c.loop-band-test.false))
    c.loop-band.invariant
