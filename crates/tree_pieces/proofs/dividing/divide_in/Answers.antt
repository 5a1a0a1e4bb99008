use Rattle.std.proofs.Common.{◌≡◌, sym, ap, ◌∙◌, subst}
use Rattle.lump_records.specs.declared.plane.Ray.{Ray}
use Rattle.tree_pieces.specs.declared.edge.Edge.{Edge}
use Rattle.tree_pieces.specs.Plane.{IsEdge}
use Rattle.tree_pieces.specs.Pieces.{ray_of}
use Rattle.tree_pieces.specs.Division.{parts_of, IsDivided}
use Rattle.tree_pieces.specs.Local.{parts_on}
use Rattle.tree_pieces.proofs.LocalLemmas.{parts_on_is}
use Rattle.tree_pieces.proofs.Trees.{may_divide_by}
use Rattle.tree_pieces.proofs.Division.{divided}
use Rattle.tree_pieces.proofs.dividing.divide_in.Goals as goal
use Rattle.tree_pieces.proofs.dividing.divide_in.Goals.{After-divide_on}

-- the parts by the ray and the line are those by the list
exact : (c : After-divide_on) → c.divide_on.result ≡ parts_of c.args.lines.now c.args.partition.now c.args.piece.now
exact c =
    let lines = c.args.lines.now in
    let h = c.args.partition.now in
    let p = c.args.piece.now in
    c.divide_on.ensures
    ∙ ap (λ (r : Ray). parts_on r c.line_of-edge.result p) c.ray_of-ray.ensures.ray
    ∙ ap (λ (e : Edge). parts_on (ray_of lines h) e p) c.line_of-edge.ensures.line
    ∙ parts_on_is lines h p

pub returns-clause-exact : goal.returns-clause-exact
returns-clause-exact c = exact c

pub returns-clause-law : goal.returns-clause-law
returns-clause-law c =
    let lines = c.args.lines.now in
    let h = c.args.partition.now in
    let p = c.args.piece.now in
    let line = subst IsEdge c.line_of-edge.ensures.line c.line_of-edge.ensures.drawn in
    subst (IsDivided lines h p) (sym (exact c)) (divided lines h p (may_divide_by lines h p c.ray_of-ray.ensures.drawn line c.requires.piece))
