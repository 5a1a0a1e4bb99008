use Rattle.std.proofs.Common.{◌≡◌, ◌∙◌, List, ℕ, Ok, false, refl, subst, sym, ap}
use Rattle.std.specs.Prelude.{Some}
use Rattle.std.proofs.KnownBytes.{Keeps-refl}
use Rattle.map_script.specs.Known.{scope_of}
use Rattle.map_script.specs.Lines.{TellsScriptFault, line_for}
use Rattle.map_script.specs.Views.{seen}
use Rattle.run_script.specs.Lines.{DrawsOther, asks, sketch_of}
use Rattle.map_tables.specs.Projects.{current_map}
use Rattle.map_tables.specs.Tables.{Tables}
use Rattle.run_script.proofs.Currents.{current_is}
use Rattle.run_script.proofs.LineEnds.{ended_line, refused_line}
use Rattle.run_script.proofs.line.draw_other.Goals as goal

pub returns-in-Err : goal.returns-in-Err
returns-in-Err g c =
    let old = sketch_of c.args.canvas.now (scope_of c.args.names.now) (g.W.Write.contents c.args.writer.now) in
    let same = c.current.ensures.tables ∙ current_is c.maps.result.now ∙ ap current_map c.maps.ensures in
    let told = subst (λ (m : Tables). TellsScriptFault c.in-Err.error (line_for (scope_of c.args.names.now) m c.args.line.now.text.now)) same c.in-Err.ensures.fault in
    subst (λ (n : ℕ). DrawsOther g.C.Canvas c.args.is_verbose (seen c.args.line.now) old (Some n) old) (sym c.code.ensures)
    (refused_line g.C.Canvas c.args.is_verbose (seen c.args.line.now) old old c.in-Err.error told
    (record { canvas = refl; names = refl; written = Keeps-refl (g.W.Write.contents c.args.writer.now) }))

pub returns : goal.returns
returns g c =
    let names = scope_of c.args.names.now in
    let old = sketch_of c.args.canvas.now (scope_of c.args.names.now) (g.W.Write.contents c.args.writer.now) in
    let new = sketch_of c.try_command.new.canvas (scope_of c.try_command.new.names) (g.W.Write.contents c.try_command.new.writer) in
    let line : List ℕ = c.args.line.now.text.now in
    let text : List ℕ = c.deref-else-asks.result.now in
    let map = current_map (g.C.Canvas.maps_in c.args.canvas.now) in
    let same : c.current.result.now.tables ≡ map = c.current.ensures.tables ∙ current_is c.maps.result.now ∙ ap current_map c.maps.ensures in
    let is : line_for names map line ≡ Ok text =
    ap (λ (m : Tables). line_for names m line) (sym same) ∙ c.in-Ok.ensures.ok ∙ ap Ok (sym c.deref-else-asks.ensures.value) in
    let none : asks g.C.Canvas line text ≡ false =
    ap (λ (t : List ℕ). asks g.C.Canvas line t) (c.deref-else-asks.ensures.value ∙ sym c.deref.ensures.value) ∙ sym c.asks.ensures ∙ c.if-asks.false in
    ended_line g.C.Canvas c.args.is_verbose (seen c.args.line.now) old new c.try_command.new.canvas text c.try_command.result is none c.try_command.ensures
