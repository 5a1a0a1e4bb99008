use Rattle.std.proofs.Common.{◌≡◌, List, [], ◌∷◌, ◌++◌, length, sym, ap, ◌∙◌, subst, arith}
use Rattle.std.proofs.lemmas.List.{length-take, take_all}
use Rattle.lump_records.specs.declared.records.Vertex.{Vertex}
use Rattle.tree_pieces.specs.Places.{ArePlaces}
use Rattle.tree_pieces.proofs.ItemReads.{one_more}
use Rattle.tree_pieces.proofs.numbered.Points.new.Goals as goal

pub push-requires : goal.push-requires
push-requires c =
    let e = ap length c.loop-n.invariant in
    let t = length-take c.loop-n.n c.args.map.now.tables.vertices in
    omega (arith, e, t, c.loop-n-test.true, c.count-n-end.ensures.number, c.count-n-end.ensures.limit)

pub loop-n-preserved : goal.loop-n-preserved
loop-n-preserved c =
    let v = c.unwrap-place.result in
    c.in_ok-push.ensures.pushed
    ∙ ap (λ (vs : List Vertex). vs ++ v ∷ []) c.loop-n.invariant
    ∙ one_more c.args.map.now.tables.vertices c.loop-n.n v (sym c.vertex.ensures.item ∙ c.unwrap-place.ensures)

pub returns-clause-places : goal.returns-clause-places
returns-clause-places c =
    let vs = c.args.map.now.tables.vertices in
    let drawn : c.loop-n.points ≡ vs = c.loop-n.invariant ∙ take_all c.loop-n.n vs (omega (arith, c.count-n-end.ensures.number, c.loop-n-test.false)) in
    subst ArePlaces (sym drawn) (record { few = omega (arith, c.count-n-end.ensures.number, c.count-n-end.ensures.limit); differ = c.count-n-end.ensures.well_formed.places })
