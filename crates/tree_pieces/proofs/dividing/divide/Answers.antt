use Rattle.std.proofs.Common.{◌≡◌, sym, ap, ◌∙◌, subst}
use Rattle.lump_records.specs.declared.plane.Ray.{Ray}
use Rattle.tree_pieces.specs.declared.edge.Edge.{Edge}
use Rattle.tree_pieces.specs.Plane.{ray}
use Rattle.tree_pieces.specs.Pieces.{edge_at}
use Rattle.tree_pieces.specs.Division.{parts_of, IsDivided}
use Rattle.tree_pieces.specs.Local.{parts_on}
use Rattle.tree_pieces.specs.Edges.{edges_of}
use Rattle.tree_pieces.proofs.LocalLemmas.{parts_on_is}
use Rattle.tree_pieces.proofs.Trees.{may_divide}
use Rattle.tree_pieces.proofs.Division.{divided}
use Rattle.tree_pieces.proofs.dividing.divide.Goals as goal
use Rattle.tree_pieces.proofs.dividing.divide.Goals.{After-divide_on}

-- the parts by the ray and the line are those by the list
exact : (c : After-divide_on) → c.divide_on.result ≡ parts_of (edges_of c.args.map.now.tables) c.args.partition.now c.args.piece.now
exact c =
    let lines = edges_of c.args.map.now.tables in
    let h = c.args.partition.now in
    let p = c.args.piece.now in
    c.divide_on.ensures
    ∙ ap (λ (r : Ray). parts_on r c.edge_of-edge.result p) (c.ray_of-ray.ensures.ray ∙ ap (λ (e : Edge). ray e h.side) c.edge_of-along.ensures.value)
    ∙ ap (λ (e : Edge). parts_on (ray (edge_at lines h.line) h.side) e p) c.edge_of-edge.ensures.value
    ∙ parts_on_is lines h p

pub returns-clause-exact : goal.returns-clause-exact
returns-clause-exact c = exact c

pub returns-clause-law : goal.returns-clause-law
returns-clause-law c =
    let lines = edges_of c.args.map.now.tables in
    let h = c.args.partition.now in
    let p = c.args.piece.now in
    subst (IsDivided lines h p) (sym (exact c)) (divided lines h p (may_divide lines c.lines_are_drawn.ensures.drawn h p c.requires.partition c.requires.piece))
