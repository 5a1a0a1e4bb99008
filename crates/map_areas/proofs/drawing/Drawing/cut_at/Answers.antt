use Rattle.std.proofs.Common.{arith, refl, List, [], ◌∷◌, ◌++◌, ap, ◌∙◌}
use Rattle.std.specs.List.{slice_set}
use Rattle.std.proofs.lemmas.Option.{slice_get-get_or, slice_get_within}
use Rattle.lump_records.specs.declared.records.Line.{Line}
use Rattle.map_tables.specs.Edits.{with_line, with_line_at}
use Rattle.map_tables.specs.Tables.{Tables}
use Rattle.map_areas.specs.declared.drawing.Drawing.{Drawing}
use Rattle.map_plane.specs.Places.{placed}
use Rattle.map_tables.specs.WellFormed.{nth_vertex}
use Rattle.map_areas.proofs.Fits.{line_fits, rest_fits, set_line_fits, short_fits}
use Rattle.map_areas.proofs.Further.{not_from, not_to}
use Rattle.map_areas.proofs.Sofar.{drawn_by, taken_new}
use Rattle.map_areas.proofs.Steps.{becoming_cut, line_there}
use Rattle.map_areas.proofs.drawing.Drawing.cut_at.Goals as goal

pub put-requires-clause-fits : goal.put-requires-clause-fits
put-requires-clause-fits c =
    let t = c.args.self.now.map.tables in
    let line = c.args.line.now in
    let fine = c.count-new.ensures.well_formed in
    let there = line_there t c.args.number line fine c.requires.line in
    set_line_fits t c.args.number _ (slice_get_within t.lines c.args.number line c.requires.line)
    (short_fits t line c.args.vertex (nth_vertex t.vertices c.args.vertex) (nth_vertex t.vertices line.v1) there.0 there.1
    (slice_get-get_or t.vertices c.args.vertex _ c.requires.there) refl (not_from (placed t (c.args.number, line)) _ c.requires.between))

pub put-requires-2-clause-fits : goal.put-requires-2-clause-fits
put-requires-2-clause-fits c =
    let t = c.args.self.now.map.tables in
    let one = c.put.new.self.map.tables in
    let line = c.args.line.now in
    let fine = c.count-new.ensures.well_formed in
    let there = line_there t c.args.number line fine c.requires.line in
    let left = c.in_ok-put.ensures.taken.left in
    line_fits one _
    (rest_fits t one line c.args.vertex (nth_vertex t.vertices c.args.vertex) (nth_vertex t.vertices line.v2) there.0 there.1
    (slice_get-get_or t.vertices c.args.vertex _ c.requires.there) refl (not_to (placed t (c.args.number, line)) _ c.requires.between)
    (ap (λ (u : Tables). u.vertices) left) (ap (λ (u : Tables). u.sides) left))

pub returns-clause-taken : goal.returns-clause-taken
returns-clause-taken c =
    let t = c.args.self.now.map.tables in
    let number = c.count-new.ensures.number in
    taken_new c.args.map.now.tables c.args.border.now c.args.round t c.count-new.result c.requires.drawn.becoming (omega (arith, number))

pub returns-clause-drawn : goal.returns-clause-drawn
returns-clause-drawn c =
    let m = c.args.map.now.tables in
    let b = c.args.border.now in
    let t = c.args.self.now.map.tables in
    let k = c.args.number in
    let line = c.args.line.now in
    let short : Line = record line { v2 = c.args.vertex } in
    let rest : Line = record line { v1 = c.args.vertex } in
    let second = c.put-2.new.self in
    let before = c.requires.drawn in
    let now : Drawing = record { map = second.map; vertices = second.vertices; lines = c.push.new.self; commands = second.commands } in
    drawn_by m b c.args.round now (with_line (with_line_at t k short) rest)
    (record { led = c.in_ok-put-2.ensures.led.led; drawing = c.in_ok-put-2.ensures.led.drawing })
    (c.in_ok-put-2.ensures.taken.left ∙ ap (λ (u : Tables). with_line u rest) c.in_ok-put.ensures.taken.left)
    (ap (λ v. v.items) c.in_ok-put-2.ensures.vertices ∙ ap (λ v. v.items) c.in_ok-put.ensures.vertices ∙ before.vertices)
    (c.in_ok-push.ensures.items ∙ ap (λ v. v.items ++ rest ∷ []) c.in_ok-put-2.ensures.lines
    ∙ (λ i. slice_set (c.in_ok-put.ensures.lines i).items (c.from.ensures i) short ++ rest ∷ [])
    ∙ ap (λ (ls : List Line). slice_set ls k short ++ rest ∷ []) before.lines)
    (becoming_cut m b c.args.round t k line c.args.vertex c.requires.line c.requires.taken c.requires.between before.becoming) before.sectors
