use Rattle.std.proofs.Common.{◌≡◌, List, [], ◌∷◌, ◌++◌, sym, ap, ◌∙◌, arith}
use Rattle.std.specs.List.{slice_set}
use Rattle.std.proofs.lemmas.Option.{get_or_from_slice_get}
use Rattle.lump_records.specs.declared.records.Vertex.{Vertex}
use Rattle.map_commands.specs.Rooms.{wall}
use Rattle.map_commands.specs.Splits.{cut_off, cut_short, line_or_some, with_split}
use Rattle.map_commands.specs.declared.command.Command.TheVariants as command
use Rattle.map_commands.specs.declared.command.LineSplit.{LineSplit}
use Rattle.map_areas.specs.Drawn.{DrawsOn, RefusesDrawing}
use Rattle.map_areas.specs.declared.drawing.Drawing.{Drawing}
use Rattle.map_areas.proofs.Fits.{split_fits}
use Rattle.map_areas.proofs.InOrder.{passed_on}
use Rattle.map_areas.proofs.Sofar.{drawn_by, led_more, refused_more, taken_new}
use Rattle.map_areas.proofs.Steps.{becoming_split}
use Rattle.map_areas.proofs.drawing.Drawing.split.Goals as goal

pub returns-in_err-try_split-clause-refused : goal.returns-in_err-try_split-clause-refused
returns-in_err-try_split-clause-refused c =
    let m = c.args.map.now.tables in
    let b = c.args.border.now in
    let s : LineSplit = record { line = c.args.number; at = c.args.at } in
    let draws : DrawsOn b.edges.items (command.Split s) = record { range = (c.requires.number, c.requires.place.range); draws = tt; outline = c.requires.place.outline } in
    let e = c.in_err-try_split.field-0.0 in
    passed_on (RefusesDrawing m b.edges.items) c.from_residual.result e c.from_residual.ensures.1
    (refused_more m b c.args.self.now (command.Split s) e c.requires.drawn.led draws
    (split_fits c.args.self.now.map.tables s c.args.line.now c.requires.line c.requires.free) c.in_err-try_split.ensures.refused)

pub returns-clause-taken : goal.returns-clause-taken
returns-clause-taken c =
    let t = c.args.self.now.map.tables in
    let number = c.count-new.ensures.number in
    taken_new c.args.map.now.tables c.args.border.now c.args.round t c.count-new.result c.requires.drawn.becoming (omega (arith, number))

pub returns-clause-drawn : goal.returns-clause-drawn
returns-clause-drawn c =
    let m = c.args.map.now.tables in
    let b = c.args.border.now in
    let t = c.args.self.now.map.tables in
    let s : LineSplit = record { line = c.args.number; at = c.args.at } in
    let draws : DrawsOn b.edges.items (command.Split s) = record { range = (c.requires.number, c.requires.place.range); draws = tt; outline = c.requires.place.outline } in
    let taken = c.in_ok-try_split.ensures.taken in
    let before = c.requires.drawn in
    let now : Drawing = record { map = c.try_split.new.map; vertices = c.push.new.self; lines = c.push-2.new.self; commands = c.push-3.new.self } in
    let vertex = c.count-vertex.ensures.number in
    let same : c.args.line.now ≡ line_or_some t.lines c.args.number = sym (get_or_from_slice_get t.lines c.args.number c.args.line.now (wall 0 0 0) c.requires.line) in
    drawn_by m b c.args.round now (with_split t s) (led_more m b c.args.self.now now (command.Split s) before.led draws taken c.in_ok-push-3.ensures.items) taken.left
    (c.in_ok-push.ensures.items ∙ ap (λ (vs : List Vertex). vs ++ c.args.at ∷ []) before.vertices)
    (c.in_ok-push-2.ensures.items
    ∙ (λ i. slice_set (before.lines i) (c.from.ensures i) (cut_short (same i) (vertex i)) ++ cut_off (same i) (vertex i) ∷ []))
    (becoming_split m b c.args.round t s c.args.line.now c.count-vertex.ensures.well_formed c.requires.line c.requires.taken c.requires.between before.becoming)
    before.sectors
