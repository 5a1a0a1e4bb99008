use Rattle.std.proofs.Common.{◌≡◌, ℕ, List, Some, sym, ap, ◌∙◌, pos, arith}
use Rattle.std.specs.Prelude.{FitsSigned}
use Rattle.std.specs.Int.{w64}
use Rattle.std.specs.List.{slice_get}
use Rattle.std.proofs.lemmas.Int.{ints, to_z-of_z}
use Rattle.std.proofs.lemmas.Option.{get_or_from_slice_get}
use Rattle.lump_records.specs.declared.records.Vertex.{Vertex}
use Rattle.lump_records.specs.declared.plane.Ray.{Ray}
use Rattle.lump_records.specs.Plane.{ray_between, side_value}
use Rattle.map_tables.specs.WellFormed.{nth_vertex}
use Rattle.map_lint.specs.Areas.{origin}
use Rattle.map_lint.proofs.areas.edge_area.Goals as goal

-- the vertex that was read is the one with the number
vertex_was : (vs : List Vertex) (n k : ℕ) (v : Vertex) → slice_get vs n ≡ Some v → n ≡ k → v ≡ nth_vertex vs k
vertex_was vs n k v read same =
    sym (get_or_from_slice_get vs n v (record { x = pos 0; y = pos 0 }) read) ∙ ap (nth_vertex vs) same

pub returns-clause-value : goal.returns-clause-value
returns-clause-value c =
    let vs = c.args.map.now.tables.vertices in
    let a = vertex_was vs c.from.result c.args.from c.unwrap-from.result (sym c.vertex.ensures.item ∙ c.unwrap-from.ensures) c.from.ensures in
    let b = vertex_was vs c.from-2.result c.args.to c.unwrap-to.result (sym c.vertex-2.ensures.item ∙ c.unwrap-to.ensures) c.from-2.ensures in
    let fits : FitsSigned w64 c.side_value.result = omega (arith, ints, c.side_value.ensures.low, c.side_value.ensures.high) in
    to_z-of_z w64 c.side_value.result fits
    ∙ c.side_value.ensures.value
    ∙ ap (λ (r : Ray). side_value r origin) c.between.ensures.ray
    ∙ (λ i. side_value (ray_between (a i) (b i)) origin)
