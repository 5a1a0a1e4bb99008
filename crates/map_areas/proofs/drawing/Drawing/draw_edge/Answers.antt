use Rattle.std.proofs.Common.{◌+◌, All, List, drop, slice_index_or, sym, ap, ◌∙◌, subst}
use Rattle.std.specs.Prelude.{pos}
use Rattle.std.proofs.lemmas.List.{drop_all, drop_more}
use Rattle.lump_records.specs.declared.records.Vertex.{Vertex}
use Rattle.map_plane.proofs.Tests.{both}
use Rattle.map_plane.specs.Meeting.{is_at}
use Rattle.map_plane.specs.declared.places.PlacedLine.{PlacedLine}
use Rattle.map_areas.specs.Bordered.{are_walled, is_led, is_walled}
use Rattle.map_areas.specs.Drawings.{IsOnBorder}
use Rattle.map_areas.specs.Ways.{is_same, sector_on_right, way}
use Rattle.map_areas.proofs.OnBorder.{led_last, led_next, same_last, same_next}
use Rattle.map_areas.proofs.Walled.{walls_then}
use Rattle.map_areas.proofs.drawing.Drawing.draw_edge.Goals as goal

pub loop-place-preserved : goal.loop-place-preserved
loop-place-preserved c =
    let m = c.args.map.now.tables in
    let sector = c.args.paint.now.sector in
    let e = c.args.cut.now.edge in
    let items = c.args.cut.now.cuts.items in
    let places = c.deref-place-items.result.now in
    let i = c.loop-place.place-index in
    let value = c.deref-place-items.ensures.value in
    let t = c.loop-place.self.map.tables in
    let new = c.draw_along.new.self.map.tables in
    let inv = c.loop-place.invariant in
    let origin : Vertex = record { x = pos 0; y = pos 0 } in
    let p = slice_index_or places i origin in
    record {
      drawn = c.in-Ok.ensures.drawn;
      at = (subst (All (IsOnBorder c.args.border.now.edges.items)) (sym value) c.requires.places.cuts) i origin c.loop-place-test.true;
      led =
          ap (λ (ps : List Vertex). is_led m c.args.paint.now.round e p (drop (i + 1) ps)) (sym value)
          ∙ (led_next m c.args.paint.now.round e c.loop-place.at places i origin c.loop-place-test.true
          (ap (λ (ps : List Vertex). is_led m c.args.paint.now.round e c.loop-place.at (drop i ps)) value ∙ inv.led)).1;
      kept = walls_then m c.args.self.now.map.tables t new sector inv.kept c.in-Ok.ensures.kept;
      walled =
          λ u keeps rest.
          inv.walled u (walls_then m t new u sector c.in-Ok.ensures.kept keeps)
          (ap (are_walled m u sector e c.loop-place.at) (ap (drop i) (sym value) ∙ drop_more places i origin c.loop-place-test.true)
          ∙ both (is_walled m u sector (way c.loop-place.at p)) (are_walled m u sector e p (drop (i + 1) places))
          (keeps (way c.loop-place.at p) (ap (is_walled m new sector) (sym c.way.ensures) ∙ c.in-Ok.ensures.walled))
          (ap (λ (ps : List Vertex). are_walled m u sector e p (drop (i + 1) ps)) value ∙ rest));
    }

pub returns-clause-kept : goal.returns-clause-kept
returns-clause-kept c =
    walls_then c.args.map.now.tables c.args.self.now.map.tables c.loop-place.self.map.tables c.draw_along-2.new.self.map.tables c.args.paint.now.sector
    c.loop-place.invariant.kept c.in_ok-draw_along.ensures.kept

pub returns-clause-walled : goal.returns-clause-walled
returns-clause-walled c =
    let m = c.args.map.now.tables in
    let sector = c.args.paint.now.sector in
    let e = c.args.cut.now.edge in
    let new = c.draw_along-2.new.self.map.tables in
    let i = c.loop-place.place-index in
    c.loop-place.invariant.walled new c.in_ok-draw_along.ensures.kept
    (ap (are_walled m new sector e c.loop-place.at) (ap (drop i) (sym c.deref-place-items.ensures.value) ∙ drop_all i c.deref-place-items.result.now c.loop-place-test.false)
    ∙ ap (is_walled m new sector) (sym c.way-2.ensures) ∙ c.in_ok-draw_along.ensures.walled)

pub draw_along-requires-clause-apart : goal.draw_along-requires-clause-apart
draw_along-requires-clause-apart c =
    let m = c.args.map.now.tables in
    let round = c.args.paint.now.round in
    let e = c.args.cut.now.edge in
    let places = c.deref-place-items.result.now in
    let i = c.loop-place.place-index in
    let origin : Vertex = record { x = pos 0; y = pos 0 } in
    ap (λ (w : PlacedLine). is_at w.from w.to) c.way.ensures
    ∙ (led_next m round e c.loop-place.at places i origin c.loop-place-test.true
    (ap (λ (ps : List Vertex). is_led m round e c.loop-place.at (drop i ps)) c.deref-place-items.ensures.value ∙ c.loop-place.invariant.led)).0

pub draw_along-requires-2-clause-apart : goal.draw_along-requires-2-clause-apart
draw_along-requires-2-clause-apart c =
    let m = c.args.map.now.tables in
    let round = c.args.paint.now.round in
    let e = c.args.cut.now.edge in
    let places = c.deref-place-items.result.now in
    let i = c.loop-place.place-index in
    ap (λ (w : PlacedLine). is_at w.from w.to) c.way-2.ensures
    ∙ led_last m round e c.loop-place.at places i c.loop-place-test.false
    (ap (λ (ps : List Vertex). is_led m round e c.loop-place.at (drop i ps)) c.deref-place-items.ensures.value ∙ c.loop-place.invariant.led)

pub draw_along-requires-clause-led : goal.draw_along-requires-clause-led
draw_along-requires-clause-led c =
    let m = c.args.map.now.tables in
    let round = c.args.paint.now.round in
    let e = c.args.cut.now.edge in
    let places = c.deref-place-items.result.now in
    let i = c.loop-place.place-index in
    let origin : Vertex = record { x = pos 0; y = pos 0 } in
    ap (λ (w : PlacedLine). is_same (sector_on_right m w) round) c.way.ensures
    ∙ same_next m round e c.loop-place.at places i origin c.loop-place-test.true
    (ap (λ (ps : List Vertex). is_led m round e c.loop-place.at (drop i ps)) c.deref-place-items.ensures.value ∙ c.loop-place.invariant.led)

pub draw_along-requires-2-clause-led : goal.draw_along-requires-2-clause-led
draw_along-requires-2-clause-led c =
    let m = c.args.map.now.tables in
    let round = c.args.paint.now.round in
    let e = c.args.cut.now.edge in
    let places = c.deref-place-items.result.now in
    let i = c.loop-place.place-index in
    ap (λ (w : PlacedLine). is_same (sector_on_right m w) round) c.way-2.ensures
    ∙ same_last m round e c.loop-place.at places i c.loop-place-test.false
    (ap (λ (ps : List Vertex). is_led m round e c.loop-place.at (drop i ps)) c.deref-place-items.ensures.value ∙ c.loop-place.invariant.led)
