use Rattle.std.proofs.Common.{◌≡◌, ℕ, ◌+◌, ◌<◌, ◌≤◌, Bool, true, false, ◌&&◌, List, [], filter, below_more, sym, ap, ◌∙◌, arith}
use Rattle.std.specs.Prelude.{slice_get}
use Rattle.std.specs.List.{list_any}
use Rattle.std.specs.Option.{option_map_or}
use Rattle.std.proofs.lemmas.Int.{ints}
use Rattle.std.proofs.lemmas.List.{get_or_default}
use Rattle.lump_records.specs.declared.records.Thing.{Thing}
use Rattle.lump_records.specs.Things.{thing_place}
use Rattle.map_tables.specs.Tables.{Tables}
use Rattle.map_plane.specs.declared.places.PlacedLine.{PlacedLine}
use Rattle.map_plane.specs.Bands.{is_in_band}
use Rattle.map_plane.specs.Squares.{cuts_square}
use Rattle.map_plane.proofs.BandLemmas.{any_of_filtered, none_in_parts}
use Rattle.map_plane.proofs.SquareLemmas.{cuts_in_band}
use Rattle.map_plane.proofs.Tests.{and_both}
use Rattle.map_play.specs.declared.bodies.Body.{Body}
use Rattle.map_play.specs.Walls.{stops, is_stopped_by}
use Rattle.map_play.proofs.walls.is_walled_in.Goals as goal

-- a line that stops a thing reaches into its square
reaches : (m : Tables) (t : Thing) (b : Body) (l : PlacedLine) → is_stopped_by m t b l ≡ true → cuts_square (thing_place t) b.radius l ≡ true
unfolding is_stopped_by
reaches m t b l h = (and_both (cuts_square (thing_place t) b.radius l) (option_map_or (stops m t b.height) (slice_get m.lines l.number) false) h).0

pub loop-band-preserved : goal.loop-band-preserved
loop-band-preserved c =
    let lines = c.args.filed.now.lines.items in
    let test = is_stopped_by c.args.map.now.tables c.args.thing.now c.args.body.now in
    let band = c.loop-band.band in
    let first = c.band_near-first.result in
    let P : ℕ → Type 0 = λ b. first ≤ b → list_any test (filter (is_in_band b) lines) ≡ false in
    let among : band < 512 = omega (arith, c.loop-band-test.true, c.band_near-last.ensures.among) in
    let filed : c.lines.result.now ≡ filter (is_in_band band) lines =
    c.lines.ensures ∙ c.index.ensures
    ∙ get_or_default c.args.filed.now.bands.items band c.index.result.now [] (omega (arith, among, c.requires.filed.filed.count))
    ∙ c.requires.filed.filed.filed band among in
    let none : list_any test (filter (is_in_band band) lines) ≡ false =
    ap (list_any test) (sym filed) ∙ sym c.is_stopped_among.ensures ∙ c.if-is_stopped_among.false in
    λ b low high. below_more P band (λ k below from. c.loop-band.invariant k from below) (λ from. none) b high low

pub returns-then-is_stopped_among : goal.returns-then-is_stopped_among
returns-then-is_stopped_among c =
    let lines = c.args.filed.now.lines.items in
    let test = is_stopped_by c.args.map.now.tables c.args.thing.now c.args.body.now in
    let band = c.loop-band.band in
    let among : band < 512 = omega (arith, c.loop-band-test.true, c.band_near-last.ensures.among) in
    let filed : c.lines.result.now ≡ filter (is_in_band band) lines =
    c.lines.ensures ∙ c.index.ensures
    ∙ get_or_default c.args.filed.now.bands.items band c.index.result.now [] (omega (arith, among, c.requires.filed.filed.count))
    ∙ c.requires.filed.filed.filed band among in
    sym
    (ap (list_any test) (sym c.requires.filed.lines)
    ∙ any_of_filtered test (is_in_band band) lines (ap (list_any test) (sym filed) ∙ sym c.is_stopped_among.ensures ∙ c.if-is_stopped_among.true))

pub returns : goal.returns
returns c =
    let m = c.args.map.now.tables in
    let thing = c.args.thing.now in
    let body = c.args.body.now in
    let test = is_stopped_by m thing body in
    let first = c.band_near-first.result in
    let last = c.band_near-last.result in
    sym
    (ap (list_any test) (sym c.requires.filed.lines)
    ∙ none_in_parts test is_in_band first (last + 1) c.args.filed.now.lines.items
    (λ l h. cuts_in_band first last _ _ c.band_near-first.ensures c.band_near-last.ensures l (thing_place thing) body.radius
    (omega (arith, ints)) (omega (arith, ints)) (reaches m thing body l h))
    (λ b low high. c.loop-band.invariant b low (omega (arith, high, c.loop-band-test.false))))
