use Rattle.std.proofs.Common.{◌≡◌, sym, ap, ◌∙◌, arith}
use Rattle.lump_records.specs.declared.plane.Ray.{Ray}
use Rattle.tree_pieces.specs.declared.edge.Edge.{Edge}
use Rattle.tree_pieces.specs.Pieces.{edge_of}
use Rattle.tree_pieces.specs.Local.{place_on, parts_on}
use Rattle.tree_pieces.proofs.LocalLemmas.{parts_on_is}
use Rattle.tree_choice.proofs.OneMore.{piece_counts}
use Rattle.tree_choice.proofs.WholeLines.{parts_by_place}
use Rattle.tree_choice.proofs.walk.count_exactly.Goals as goal
use Rattle.tree_choice.proofs.walk.count_exactly.Goals.{After-place_on}

-- the place by the line is that by the list
placed : (c : After-place_on) → c.place_on.result ≡ place_on c.args.by.now.margins.ray (edge_of c.args.by.now.lines.now c.args.piece.now) c.args.piece.now
placed c = c.place_on.ensures ∙ ap (λ (e : Edge). place_on c.args.by.now.margins.ray e c.args.piece.now) c.line_of-edge.ensures.line

pub returns-in-Right : goal.returns-in-Right
returns-in-Right c =
    piece_counts c.args.by.now.lines.now c.args.by.now.piece.now c.args.piece.now _ _
    (parts_by_place c.args.by.now.lines.now c.args.by.now.piece.now c.args.piece.now c.args.by.now.margins.ray _ c.requires.candidate.ray (sym c.in-Right.is ∙ placed (goal.at.returns-in-Right c).After-place_on)) (omega arith) (omega arith) (omega arith)

pub returns-in-Left : goal.returns-in-Left
returns-in-Left c =
    piece_counts c.args.by.now.lines.now c.args.by.now.piece.now c.args.piece.now _ _
    (parts_by_place c.args.by.now.lines.now c.args.by.now.piece.now c.args.piece.now c.args.by.now.margins.ray _ c.requires.candidate.ray (sym c.in-Left.is ∙ placed (goal.at.returns-in-Left c).After-place_on)) (omega arith) (omega arith) (omega arith)

pub returns-in-Across : goal.returns-in-Across
returns-in-Across c =
    let lines = c.args.by.now.lines.now in
    let q = c.args.piece.now in
    let o = c.of_parts.ensures in
    piece_counts lines c.args.by.now.piece.now q c.divide_on-parts.result c.of_parts.result
    (c.divide_on-parts.ensures ∙ ap (λ (e : Edge). parts_on c.args.by.now.margins.ray e q) c.line_of-edge.ensures.line ∙ ap (λ (x : Ray). parts_on x (edge_of lines q) q) c.requires.candidate.ray ∙ parts_on_is lines c.args.by.now.piece.now q) o.right o.left o.splits
