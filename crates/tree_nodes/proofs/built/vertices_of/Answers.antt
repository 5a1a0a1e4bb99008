use Rattle.std.proofs.Common.{◌≡◌, ◌∙◌, ap, List, [], ◌∷◌, ◌++◌, Some, slice_get, arith}
use Rattle.std.proofs.lemmas.Option.{slice_get_within}
use Rattle.lump_records.specs.declared.records.Vertex.{Vertex}
use Rattle.tree_nodes.proofs.Places.{take_next}
use Rattle.tree_nodes.proofs.built.vertices_of.Goals as goal

pub loop-n-preserved : goal.loop-n-preserved
loop-n-preserved c =
    let s : slice_get c.args.points.now c.loop-n.n ≡ Some c.unwrap-place.result = cc (c.at.ensures, c.unwrap-place.ensures) in
    let w = slice_get_within c.args.points.now c.loop-n.n c.unwrap-place.result s in
    (c.in_ok-push.ensures.items ∙ ap (λ (l : List Vertex). l ++ c.unwrap-place.result ∷ []) c.loop-n.invariant.0 ∙ take_next c.args.points.now c.loop-n.n c.unwrap-place.result s, omega (arith, w))
