use Rattle.std.proofs.Common.{◌≡◌, ◌∙◌, sym, subst, [], ◌∷◌, rules, arith}
use Rattle.std.proofs.lemmas.Int.{ints, to_z-of_z}
use Rattle.std.specs.Int.{w16, w64}
use Rattle.std.specs.Prelude.{FitsSigned, ◌-ℤ◌}
use Rattle.lump_records.proofs.PlaneLemmas.{step_back}
use Rattle.lump_records.proofs.Ring.{by_ring, quotes}
use Rattle.lump_records.specs.Plane.{IsStep, point_of, side_value}
use Rattle.lump_records.specs.declared.plane.Ray.{Ray}
use Rattle.lump_records.specs.declared.records.Vertex.{Vertex}
use Rattle.map_plane.specs.declared.places.PlacedLine.{PlacedLine}
use Rattle.map_areas.specs.Stops.{far_along}
use Rattle.map_areas.proofs.stops.far_along.Goals as goal

-- the straight line across a line, through its start
across : PlacedLine → Ray
across l = record { start = l.from; dx = l.from.y -ℤ l.to.y; dy = l.to.x -ℤ l.from.x }

across_step : (l : PlacedLine) → FitsSigned w16 l.from.x → FitsSigned w16 l.from.y → FitsSigned w16 l.to.x → FitsSigned w16 l.to.y → IsStep (across l)
unfolding across
across_step l fx fy tx ty = record {
  dx_low = omega (arith, ints);
  dx_high = omega (arith, ints);
  dy_low = omega (arith, ints);
  dy_high = omega (arith, ints);
}

across_value : (l : PlacedLine) (p : Vertex) → side_value (across l) (point_of p) ≡ far_along l p
unfolding across far_along
across_value l p = by_ring (l.from.x ∷ l.from.y ∷ l.to.x ∷ l.to.y ∷ p.x ∷ p.y ∷ []) _ _ (search quotes depth 30 fits 20000) (search quotes depth 30 fits 20000) tt

pub side_value-requires : goal.side_value-requires
unfolding across
side_value-requires c =
    let l = c.args.line.now in
    let fx : FitsSigned w16 l.from.x = search rules in
    let fy : FitsSigned w16 l.from.y = search rules in
    let tx : FitsSigned w16 l.to.x = search rules in
    let ty : FitsSigned w16 l.to.y = search rules in
    subst IsStep (λ i. record { start = l.from; dx = sym (step_back l.to.y l.from.y ty fy) i; dy = sym (step_back l.from.x l.to.x fx tx) i })
    (across_step l fx fy tx ty)

pub returns : goal.returns
unfolding across
returns c =
    let l = c.args.line.now in
    let fx : FitsSigned w16 l.from.x = search rules in
    let fy : FitsSigned w16 l.from.y = search rules in
    let tx : FitsSigned w16 l.to.x = search rules in
    let ty : FitsSigned w16 l.to.y = search rules in
    let fits : FitsSigned w64 c.side_value.result = search rules in
    to_z-of_z w64 c.side_value.result fits ∙ c.side_value.ensures.value
    ∙ (λ i. side_value (record { start = l.from; dx = step_back l.to.y l.from.y ty fy i; dy = step_back l.from.x l.to.x fx tx i }) (c.into.ensures i))
    ∙ across_value l c.args.place
