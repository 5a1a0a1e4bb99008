use Rattle.std.proofs.Common.{◌≡◌, ◌∙◌, ℕ, ◌+◌, ◌<◌, ◌≤◌, Bool, true, ◌&&◌, List, ◌∷◌, Option, drop, get_or, length, subst, sym, refl}
use Rattle.std.proofs.lemmas.List.{at_drop_more, drop_all, drop_more}
use Rattle.std.specs.Prelude.{pos}
use Rattle.lump_records.specs.declared.records.Vertex.{Vertex}
use Rattle.map_plane.specs.declared.places.PlacedLine.{PlacedLine}
use Rattle.map_tables.specs.Tables.{Tables}
use Rattle.map_areas.proofs.Rests.{IsRest, last_unmet, next_unmet, next_rest, next_stop, whole_rest}
use Rattle.map_areas.specs.Bordered.{is_led, is_led_to}
use Rattle.map_areas.specs.Stops.{is_stop}
use Rattle.map_areas.proofs.round.follow_edge.Goals as goal

-- the next cut and those behind it
rest_of : (m : Tables) (e : PlacedLine) (at : Vertex) (vs ps : List Vertex) (i : ℕ) (d : Vertex) → vs ≡ ps → i < length vs → IsRest m e at (drop i ps)
    → IsRest m e at (get_or vs i d ∷ drop (i + 1) ps)
rest_of m e at vs ps i d is lt r =
    subst (λ (ws : List Vertex). IsRest m e at (get_or ws i d ∷ drop (i + 1) ps)) (sym is)
    (subst (λ (ws : List Vertex). IsRest m e at ws) (drop_more ps i d (subst (λ (ws : List Vertex). i < length ws) is lt)) r)

led_of : (m : Tables) (round : Option ℕ) (e : PlacedLine) (at : Vertex) (vs ps : List Vertex) (i : ℕ) (d : Vertex) (whole : Bool) → vs ≡ ps → i < length vs
    → is_stop m e (get_or vs i d) ≡ true → is_led_to m round e at (get_or vs i d) ≡ true → whole ≡ is_led m round e at (drop i ps)
    → whole ≡ is_led m round e (get_or vs i d) (drop (i + 1) ps)
led_of m round e at vs ps i d whole is lt stop led h =
    h ∙ at_drop_more (is_led m round e at) ps i d (subst (λ (ws : List Vertex). i < length ws) is lt)
    ∙ (λ t. is_led m round e at (get_or (sym is t) i d ∷ drop (i + 1) ps))
    ∙ (λ t. (stop t && led t) && is_led m round e (get_or vs i d) (drop (i + 1) ps))

-- some place
abbrev origin : Vertex
origin = record { x = pos 0; y = pos 0 }

pub loop-place-init : goal.loop-place-init
loop-place-init c = record { led = refl; rest = whole_rest c.args.map.now.tables c.args.cut.now c.requires.cut }

pub follow_part-requires-clause-unmet : goal.follow_part-requires-clause-unmet
follow_part-requires-clause-unmet c =
    let m = c.args.map.now.tables in
    let cut = c.args.cut.now in
    let i = c.loop-place.place-index in
    let vs = c.deref-place-items.result.now in
    next_unmet m cut.edge c.loop-place.at (get_or vs i origin) (drop (i + 1) cut.cuts.items)
    (rest_of m cut.edge c.loop-place.at vs cut.cuts.items i origin c.deref-place-items.ensures.value c.loop-place-test.true c.loop-place.invariant.rest) c.requires.cut.whole

pub loop-place-preserved : goal.loop-place-preserved
loop-place-preserved c =
    let m = c.args.map.now.tables in
    let cut = c.args.cut.now in
    let i = c.loop-place.place-index in
    let vs = c.deref-place-items.result.now in
    let p = get_or vs i origin in
    let r =
    rest_of m cut.edge c.loop-place.at vs cut.cuts.items i origin c.deref-place-items.ensures.value c.loop-place-test.true c.loop-place.invariant.rest in
    record {
      led =
          led_of m c.args.first.now.sector cut.edge c.loop-place.at vs cut.cuts.items i origin _ c.deref-place-items.ensures.value c.loop-place-test.true
          (next_stop m cut.edge c.loop-place.at p (drop (i + 1) cut.cuts.items) r) c.in-Ok.ensures.led c.loop-place.invariant.led;
      rest = next_rest m cut.edge c.loop-place.at p (drop (i + 1) cut.cuts.items) r;
    }

pub follow_part-requires-2-clause-unmet : goal.follow_part-requires-2-clause-unmet
follow_part-requires-2-clause-unmet c =
    let m = c.args.map.now.tables in
    let cut = c.args.cut.now in
    let i = c.loop-place.place-index in
    let size = subst (λ (ws : List Vertex). length ws ≤ i) c.deref-place-items.ensures.value c.loop-place-test.false in
    last_unmet m cut.edge c.loop-place.at
    (subst (λ (ws : List Vertex). IsRest m cut.edge c.loop-place.at ws) (drop_all i cut.cuts.items size) c.loop-place.invariant.rest) c.requires.cut.whole
