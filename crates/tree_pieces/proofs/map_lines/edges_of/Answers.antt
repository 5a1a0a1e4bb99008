use Rattle.std.proofs.Common.{◌≡◌, All, subst, ℕ, List, [], ◌∷◌, ◌++◌, map, take, sym, ap, ◌∙◌, arith, add-one}
use Rattle.std.proofs.lemmas.List.{take_all}
use Rattle.map_tables.specs.WellFormed.{HasEnds}
use Rattle.tree_pieces.specs.declared.edge.Edge.{Edge}
use Rattle.tree_pieces.specs.Plane.{IsEdge}
use Rattle.tree_pieces.specs.Edges.{edge_between, edges_of}
use Rattle.tree_pieces.proofs.ItemReads.{is_there, at_some, mapped}
use Rattle.tree_pieces.proofs.map_lines.edges_of.Goals as goal
use Rattle.tree_pieces.proofs.map_lines.edges_of.Goals.{After-loop-n}

pub unwrap-line-requires : goal.unwrap-line-requires
unwrap-line-requires c =
    is_there c.args.map.now.tables.lines c.loop-n.n c.line.result c.line.ensures.item
    (omega (arith, c.count-n-end.ensures.number, c.loop-n-test.true))

pub edge_between-requires : goal.edge_between-requires
edge_between-requires c = at_some (HasEnds c.args.map.now.tables.vertices) c.unwrap-line.result c.unwrap-line.ensures c.line.ensures.ends

pub loop-n-preserved : goal.loop-n-preserved
loop-n-preserved c =
    let m = c.args.map.now.tables in
    let n = c.loop-n.n in
    c.in_ok-push.ensures.items
    ∙ ap (λ (es : List Edge). es ++ c.edge_between.result ∷ []) c.loop-n.invariant
    ∙ ap (λ (e : Edge). map (edge_between m.vertices) (take n m.lines) ++ e ∷ []) c.edge_between.ensures
    ∙ mapped (edge_between m.vertices) m.lines n c.unwrap-line.result (sym c.line.ensures.item ∙ c.unwrap-line.ensures)
    ∙ ap (λ (i : ℕ). map (edge_between m.vertices) (take i m.lines)) (sym (add-one n))

-- the lines are the map's
made : (c : After-loop-n) → c.loop-n.edges.items ≡ edges_of c.args.map.now.tables
made c =
    let m = c.args.map.now.tables in
    c.loop-n.invariant ∙ ap (map (edge_between m.vertices)) (take_all c.loop-n.n m.lines (omega (arith, c.count-n-end.ensures.number, c.loop-n-test.false)))

pub of-requires : goal.of-requires
of-requires c = subst (All IsEdge) (sym (made c)) c.lines_are_drawn.ensures.drawn

pub returns-clause-edges : goal.returns-clause-edges
returns-clause-edges c = c.of.ensures ∙ made (goal.at.returns-clause-edges c).After-loop-n
