use Rattle.std.proofs.Common.{◌≡◌, ◌∙◌, ℕ, Some, ap, subst, sym}
use Rattle.map_script.specs.Known.{scope_of}
use Rattle.map_script.specs.Lines.{TellsScriptFault, names_after}
use Rattle.map_script.specs.Words.{text_words}
use Rattle.map_tables.specs.Projects.{current_map}
use Rattle.map_tables.specs.Tables.{Tables}
use Rattle.run_script.specs.Given.{GivesWords}
use Rattle.run_script.proofs.Currents.{current_is}
use Rattle.run_script.proofs.LineEnds.{given_words, refused_words}
use Rattle.run_script.proofs.line.draw_let.Goals as goal

pub returns-in-Ok : goal.returns-in-Ok
returns-in-Ok g c =
    let same = c.current.ensures.tables ∙ current_is c.maps.result.now ∙ ap current_map c.maps.ensures in
    let words = text_words c.args.words.now in
    given_words g.C.Canvas words c.args.canvas.now (scope_of c.args.names.now) (scope_of c.give_words.new.names)
    (ap (λ (m : Tables). names_after (scope_of c.args.names.now) m words) (sym same) ∙ c.in-Ok.ensures.ok)

pub returns-in-Err : goal.returns-in-Err
returns-in-Err g c =
    let same = c.current.ensures.tables ∙ current_is c.maps.result.now ∙ ap current_map c.maps.ensures in
    let words = text_words c.args.words.now in
    subst (λ (n : ℕ). GivesWords g.C.Canvas words c.args.canvas.now (scope_of c.args.names.now) (Some n) (scope_of c.give_words.new.names)) (sym c.code.ensures)
    (refused_words g.C.Canvas words c.args.canvas.now (scope_of c.args.names.now) (scope_of c.give_words.new.names) c.in-Err.error
    (subst (λ (m : Tables). TellsScriptFault c.in-Err.error (names_after (scope_of c.args.names.now) m words)) same c.in-Err.ensures.fault)
    c.in-Err.ensures.unchanged)
