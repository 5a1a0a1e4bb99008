use Rattle.std.proofs.Common.{◌≡◌, ℕ, ◌+◌, ◌<◌, ◌≤◌, Bool, true, false, List, [], filter, below_more, sym, ap, ◌∙◌, arith}
use Rattle.std.specs.List.{list_any}
use Rattle.std.proofs.lemmas.Int.{ints}
use Rattle.std.proofs.lemmas.List.{get_or_default}
use Rattle.lump_records.specs.Things.{thing_place}
use Rattle.map_plane.specs.Bands.{is_in_band}
use Rattle.map_plane.proofs.BandLemmas.{any_of_filtered, none_in_parts}
use Rattle.map_plane.proofs.SquareLemmas.{overlaps_in_band}
use Rattle.map_play.specs.Points.{is_blocked_at}
use Rattle.map_play.proofs.BlockSteps.{near_at, blocked_at_points}
use Rattle.map_play.proofs.crowds.is_blocked.Goals as goal

pub loop-band-preserved : goal.loop-band-preserved
loop-band-preserved c =
    let points = c.args.solids.now.lines.items in
    let test = is_blocked_at c.args.map.now.tables c.args.n c.args.thing.now c.args.body.now in
    let band = c.loop-band.band in
    let first = c.band_near-first.result in
    let P : ℕ → Type 0 = λ b. first ≤ b → list_any test (filter (is_in_band b) points) ≡ false in
    let among : band < 512 = omega (arith, c.loop-band-test.true, c.band_near-last.ensures.among) in
    let filed : c.lines.result.now ≡ filter (is_in_band band) points =
    c.lines.ensures ∙ c.index.ensures
    ∙ get_or_default c.args.solids.now.bands.items band c.index.result.now [] (omega (arith, among, c.requires.solids.filed.count))
    ∙ c.requires.solids.filed.filed band among in
    let none : list_any test (filter (is_in_band band) points) ≡ false =
    ap (list_any test) (sym filed) ∙ sym c.is_blocked_among.ensures ∙ c.if-is_blocked_among.false in
    λ b low high. below_more P band (λ k below from. c.loop-band.invariant k from below) (λ from. none) b high low

pub returns-then-is_blocked_among : goal.returns-then-is_blocked_among
returns-then-is_blocked_among c =
    let points = c.args.solids.now.lines.items in
    let m = c.args.map.now.tables in
    let test = is_blocked_at m c.args.n c.args.thing.now c.args.body.now in
    let band = c.loop-band.band in
    let among : band < 512 = omega (arith, c.loop-band-test.true, c.band_near-last.ensures.among) in
    let filed : c.lines.result.now ≡ filter (is_in_band band) points =
    c.lines.ensures ∙ c.index.ensures
    ∙ get_or_default c.args.solids.now.bands.items band c.index.result.now [] (omega (arith, among, c.requires.solids.filed.count))
    ∙ c.requires.solids.filed.filed band among in
    sym
    (sym (blocked_at_points m c.args.n c.args.thing.now c.args.body.now) ∙ ap (list_any test) (sym c.requires.solids.lines)
    ∙ any_of_filtered test (is_in_band band) points (ap (list_any test) (sym filed) ∙ sym c.is_blocked_among.ensures ∙ c.if-is_blocked_among.true))

pub returns : goal.returns
returns c =
    let m = c.args.map.now.tables in
    let thing = c.args.thing.now in
    let body = c.args.body.now in
    let test = is_blocked_at m c.args.n thing body in
    let first = c.band_near-first.result in
    let last = c.band_near-last.result in
    sym
    (sym (blocked_at_points m c.args.n thing body) ∙ ap (list_any test) (sym c.requires.solids.lines)
    ∙ none_in_parts test is_in_band first (last + 1) c.args.solids.now.lines.items
    (λ l h. overlaps_in_band first last _ _ c.band_near-first.ensures c.band_near-last.ensures l (thing_place thing) (body.radius + 128)
    (omega (arith, ints)) (omega (arith, ints)) (near_at m c.args.n thing body l h))
    (λ b low high. c.loop-band.invariant b low (omega (arith, high, c.loop-band-test.false))))
