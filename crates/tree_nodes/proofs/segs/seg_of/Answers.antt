use Rattle.std.proofs.Common.{ap, ◌∙◌, subst, refl, Some}
use Rattle.lump_records.specs.declared.records.Vertex.{Vertex}
use Rattle.tree_pieces.specs.Pieces.{ray_of}
use Rattle.tree_pieces.specs.Offset.{IsOffset}
use Rattle.tree_nodes.proofs.Numbering.{seg_made, stays, has_numbers, start_one, end_one, first_refused, second_refused}
use Rattle.tree_nodes.proofs.segs.seg_of.Goals as goal

pub returns-in-Err-clause-refused : goal.returns-in-Err-clause-refused
returns-in-Err-clause-refused c =
    let s = c.shape_of-shape in
    first_refused c.args.lines.now c.args.points.now c.args.piece.now s.result.start c.in-Err.error
    (start_one c.args.lines.now c.args.piece.now.side c.args.piece.now s.result.start s.ensures.start) c.in-Err.ensures.refused

pub returns-in-Err-number_of-clause-refused : goal.returns-in-Err-number_of-clause-refused
returns-in-Err-number_of-clause-refused c =
    let s = c.shape_of-shape in
    second_refused c.args.lines.now c.args.points.now c.number_of.new.points c.args.piece.now s.result.start s.result.end c.in-Ok.number c.in-Err-number_of.error c.in-Ok.ensures.numbered
    (start_one c.args.lines.now c.args.piece.now.side c.args.piece.now s.result.start s.ensures.start)
    (end_one c.args.lines.now c.args.piece.now.side c.args.piece.now s.result.end s.ensures.end)
    c.in-Err-number_of.ensures.refused

pub returns-in-Ok-number_of-clause-seg : goal.returns-in-Ok-number_of-clause-seg
returns-in-Ok-number_of-clause-seg c =
    let lines = c.args.lines.now in
    let p = c.args.piece.now in
    let s = c.shape_of-shape in
    let a = c.in-Ok.ensures.numbered in
    let b = c.in-Ok-number_of.ensures.numbered in
    seg_made lines c.number_of-2.new.points p _ refl s.ensures.side
    (stays c.number_of.new.points c.number_of-2.new.points b.added c.in-Ok.number s.result.start b.grown a.stands ∙ ap Some s.ensures.start)
    (b.stands ∙ ap Some s.ensures.end)
    s.ensures.angle
    (subst (λ (v : Vertex). IsOffset (ray_of lines p).start v s.result.offset) s.ensures.start s.ensures.offset)

pub returns-in-Ok-number_of-clause-numbers : goal.returns-in-Ok-number_of-clause-numbers
returns-in-Ok-number_of-clause-numbers c =
    has_numbers c.args.points.now c.number_of.new.points c.number_of-2.new.points c.shape_of-shape.result.start c.shape_of-shape.result.end _ c.in-Ok.ensures.numbered c.in-Ok-number_of.ensures.numbered
