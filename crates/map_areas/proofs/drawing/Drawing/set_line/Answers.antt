use Rattle.std.proofs.Common.{List, sym, ap, ◌∙◌, subst}
use Rattle.std.specs.List.{slice_get, slice_set}
use Rattle.std.specs.Vec.{with_item}
use Rattle.lump_records.specs.declared.records.Line.{Line}
use Rattle.map_tables.specs.Edits.{with_line_at}
use Rattle.map_tables.specs.Tables.{Tables}
use Rattle.map_areas.specs.Drawings.{KeepsLinesBut}
use Rattle.map_areas.specs.declared.drawing.Drawing.{Drawing}
use Rattle.map_areas.proofs.Sofar.{drawn_by, line_there}
use Rattle.map_areas.proofs.Items.{at_set}
use Rattle.map_areas.proofs.Steps.{becoming_set_line, kept_set_line}
use Rattle.map_areas.proofs.Fits.{set_line_fits}
use Rattle.map_areas.proofs.drawing.Drawing.set_line.Goals as goal

pub returns-clause-drawn : goal.returns-clause-drawn
returns-clause-drawn c =
    let t = c.args.self.now.map.tables in
    let put = c.put.new.self in
    let taken = c.in_ok-put.ensures.taken in
    let before = c.requires.drawn in
    let now : Drawing =
    record { map = put.map; vertices = put.vertices; lines = with_item put.lines c.from.result c.args.line; commands = put.commands } in
    drawn_by c.args.map.now.tables c.args.border.now c.args.round now (with_line_at t c.args.number c.args.line)
    (record { led = c.in_ok-put.ensures.led.led; drawing = c.in_ok-put.ensures.led.drawing }) taken.left
    (ap (λ v. v.items) c.in_ok-put.ensures.vertices ∙ before.vertices)
    ((λ i. slice_set (c.in_ok-put.ensures.lines i).items (c.from.ensures i) c.args.line) ∙ ap (λ (ls : List Line). slice_set ls c.args.number c.args.line) before.lines)
    (becoming_set_line c.args.map.now.tables c.args.border.now c.args.round t c.args.number c.args.line
    (line_there t c.args.number c.args.line taken.accepted) c.requires.taken c.requires.part c.requires.ends before.becoming) before.sectors

pub returns-clause-there : goal.returns-clause-there
returns-clause-there c =
    let t = c.args.self.now.map.tables in
    let taken = c.in_ok-put.ensures.taken in
    ap (λ (u : Tables). slice_get u.lines c.args.number) taken.left
    ∙ at_set t.lines c.args.number c.args.line (line_there t c.args.number c.args.line taken.accepted)

pub returns-clause-kept : goal.returns-clause-kept
returns-clause-kept c =
    let t = c.args.self.now.map.tables in
    subst (KeepsLinesBut c.args.number t) (sym c.in_ok-put.ensures.taken.left) (kept_set_line t c.args.number c.args.line)

pub put-requires-clause-fits : goal.put-requires-clause-fits
put-requires-clause-fits c = set_line_fits c.args.self.now.map.tables c.args.number c.args.line c.requires.here c.requires.fits
