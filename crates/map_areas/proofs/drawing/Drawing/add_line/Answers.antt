use Rattle.std.proofs.Common.{List, [], ◌∷◌, ◌++◌, sym, ap, ◌∙◌, arith, subst}
use Rattle.std.specs.List.{slice_get}
use Rattle.lump_records.specs.declared.records.Line.{Line}
use Rattle.map_tables.specs.Edits.{with_line}
use Rattle.map_tables.specs.Tables.{Tables}
use Rattle.map_areas.specs.Drawings.{KeepsLines}
use Rattle.map_areas.specs.declared.drawing.Drawing.{Drawing}
use Rattle.map_areas.proofs.Sofar.{drawn_by, taken_new}
use Rattle.map_areas.proofs.Items.{at_end}
use Rattle.map_areas.proofs.Steps.{becoming_line, kept_line}
use Rattle.map_areas.proofs.Fits.{line_fits}
use Rattle.map_areas.proofs.drawing.Drawing.add_line.Goals as goal

pub returns-clause-drawn : goal.returns-clause-drawn
returns-clause-drawn c =
    let t = c.args.self.now.map.tables in
    let put = c.put.new.self in
    let taken = c.in_ok-put.ensures.taken in
    let before = c.requires.drawn in
    let now : Drawing = record { map = put.map; vertices = put.vertices; lines = c.push.new.self; commands = put.commands } in
    drawn_by c.args.map.now.tables c.args.border.now c.args.round now (with_line t c.args.line)
    (record { led = c.in_ok-put.ensures.led.led; drawing = c.in_ok-put.ensures.led.drawing }) taken.left
    (ap (λ v. v.items) c.in_ok-put.ensures.vertices ∙ before.vertices)
    (c.in_ok-push.ensures.items ∙ ap (λ v. v.items ++ c.args.line ∷ []) c.in_ok-put.ensures.lines ∙ ap (λ (ls : List Line). ls ++ c.args.line ∷ []) before.lines)
    (becoming_line c.args.map.now.tables c.args.border.now c.args.round t c.args.line before.becoming) before.sectors

pub returns-clause-there : goal.returns-clause-there
returns-clause-there c =
    let t = c.args.self.now.map.tables in
    ap (λ (u : Tables). slice_get u.lines c.count-count.result) c.in_ok-put.ensures.taken.left
    ∙ at_end t.lines c.count-count.result c.args.line c.count-count.ensures.number

pub returns-clause-taken : goal.returns-clause-taken
returns-clause-taken c =
    let t = c.args.self.now.map.tables in
    let number = c.count-count.ensures.number in
    taken_new c.args.map.now.tables c.args.border.now c.args.round t c.count-count.result c.requires.drawn.becoming (omega (arith, number))

pub returns-clause-kept : goal.returns-clause-kept
returns-clause-kept c =
    let t = c.args.self.now.map.tables in
    subst (KeepsLines t) (sym c.in_ok-put.ensures.taken.left) (kept_line t c.args.line)

pub put-requires-clause-fits : goal.put-requires-clause-fits
put-requires-clause-fits c = line_fits c.args.self.now.map.tables c.args.line c.requires.fits
