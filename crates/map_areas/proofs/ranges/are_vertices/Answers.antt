use Rattle.std.proofs.Common.{List, refl, sym, ◌∙◌, subst}
use Rattle.std.specs.Prelude.{All}
use Rattle.std.proofs.lemmas.Bool.{false≢true}
use Rattle.std.proofs.lemmas.List.{take_all}
use Rattle.std.proofs.lemmas.List.Elements.{All-get_or, All-more}
use Rattle.lump_records.specs.declared.records.Vertex.{Vertex}
use Rattle.map_tables.specs.Ranges.{IsVertex}
use Rattle.map_areas.proofs.ranges.are_vertices.Goals as goal

pub loop-vertex-preserved : goal.loop-vertex-preserved
loop-vertex-preserved c =
    All-more IsVertex c.args.vertices.now c.loop-vertex.vertex-index _ c.loop-vertex-test.true c.loop-vertex.invariant
    (c.is_vertex.ensures.0 c.if-not-is_vertex.false)

pub returns-then-not-is_vertex : goal.returns-then-not-is_vertex
returns-then-not-is_vertex c = (
  λ t. absurd (false≢true t),
  λ all. sym c.if-not-is_vertex.true
      ∙ c.is_vertex.ensures.1 (All-get_or IsVertex c.args.vertices.now c.loop-vertex.vertex-index _ c.loop-vertex-test.true all),
)

pub returns : goal.returns
returns c = (
  λ t. subst (λ (vs : List Vertex). All IsVertex vs) (take_all c.loop-vertex.vertex-index c.args.vertices.now c.loop-vertex-test.false) c.loop-vertex.invariant,
  λ all. refl,
)
