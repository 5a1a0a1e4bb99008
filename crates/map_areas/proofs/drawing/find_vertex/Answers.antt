use Rattle.std.proofs.Common.{◌≡◌, Bool, false, ◌||◌, Some, refl, sym, ap, ◌∙◌}
use Rattle.std.proofs.lemmas.List.Folds.{list_any_more}
use Rattle.std.proofs.lemmas.Option.{slice_get-get_or}
use Rattle.lump_records.specs.declared.records.Vertex.{Vertex}
use Rattle.map_plane.proofs.Means.{at_is}
use Rattle.map_plane.specs.Meeting.{is_at}
use Rattle.map_tables.specs.Faults.{is_place}
use Rattle.map_areas.proofs.drawing.find_vertex.Goals as goal

none : (a b : Bool) → a ≡ false → b ≡ false → (a || b) ≡ false
none a b p q = λ i. p i || q i

place_at : (p v : Vertex) → is_place p v ≡ is_at v p
unfolding is_at
place_at p v = refl

pub returns-then-is_at-clause-there : goal.returns-then-is_at-clause-there
returns-then-is_at-clause-there c =
    let vs = c.args.vertices.now in
    slice_get-get_or vs c.loop-n.n _ c.loop-n-test.true ∙ ap (λ (v : Vertex). Some v) (at_is _ c.args.place (sym c.is_at.ensures ∙ c.if-is_at.true))

pub loop-n-preserved : goal.loop-n-preserved
loop-n-preserved c =
    let vs = c.args.vertices.now in
    list_any_more (is_place c.args.place) vs c.loop-n.n _ c.loop-n-test.true
    ∙ none _ _ c.loop-n.invariant (place_at c.args.place _ ∙ sym c.is_at.ensures ∙ c.if-is_at.false)
