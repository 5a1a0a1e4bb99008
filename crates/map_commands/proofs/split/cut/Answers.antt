use Rattle.std.proofs.Common.{refl}
use Rattle.map_tables.specs.WellFormed.{HasEnds, HasSides}
use Rattle.map_commands.proofs.Cutting.{back_free, cut_is, found_line, front_free, may_cut, of_found}
use Rattle.map_commands.proofs.split.cut.Goals as goal

pub put-requires-clause-accepted : goal.put-requires-clause-accepted
put-requires-clause-accepted c =
    let m = c.args.maps.now.tables in
    let s = c.args.split.now in
    let l = c.unwrap-line.result in
    let is = found_line m.lines _ s.line c.line_of.result l c.from.ensures c.line_of.ensures.item c.unwrap-line.ensures in
    let may = may_cut m s s.line l refl is c.requires.accepted
    (of_found (HasEnds m.vertices) c.line_of.result l c.line_of.ensures.ends c.unwrap-line.ensures)
    (of_found (HasSides m.sides) c.line_of.result l c.line_of.ensures.sides c.unwrap-line.ensures) in
    front_free m _ s.at s.line _ l may c.put-vertex.ensures.tables c.put-vertex.ensures.number

pub put-requires-2-clause-accepted : goal.put-requires-2-clause-accepted
put-requires-2-clause-accepted c =
    let m = c.args.maps.now.tables in
    let s = c.args.split.now in
    let l = c.unwrap-line.result in
    let is = found_line m.lines _ s.line c.line_of.result l c.from.ensures c.line_of.ensures.item c.unwrap-line.ensures in
    let may = may_cut m s s.line l refl is c.requires.accepted
    (of_found (HasEnds m.vertices) c.line_of.result l c.line_of.ensures.ends c.unwrap-line.ensures)
    (of_found (HasSides m.sides) c.line_of.result l c.line_of.ensures.sides c.unwrap-line.ensures) in
    back_free m _ _ s.at s.line _ l may c.put-vertex.ensures.tables c.put.ensures.tables c.put-vertex.ensures.number

pub returns-clause-tables : goal.returns-clause-tables
returns-clause-tables c =
    let m = c.args.maps.now.tables in
    let s = c.args.split.now in
    let l = c.unwrap-line.result in
    cut_is m _ _ _ s s.line _ l refl (found_line m.lines _ s.line c.line_of.result l c.from.ensures c.line_of.ensures.item c.unwrap-line.ensures)
    c.put-vertex.ensures.tables c.put.ensures.tables c.put-2.ensures.tables c.put-vertex.ensures.number
