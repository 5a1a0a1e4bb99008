use Rattle.std.proofs.Common.{◌≡◌, ◌∙◌, List, ℕ, None, Some, refl, sym, ap}
use Rattle.std.proofs.KnownBytes.{Keeps-refl}
use Rattle.map_script.specs.Known.{scope_of}
use Rattle.map_script.specs.Lines.{let_words}
use Rattle.map_script.specs.Views.{seen}
use Rattle.map_script.specs.Words.{text_words}
use Rattle.run_script.specs.Lines.{sketch_of}
use Rattle.run_script.proofs.LineEnds.{let_line, other_ends}
use Rattle.run_script.proofs.line.draw_line.Goals as goal

pub returns-in-Some : goal.returns-in-Some
returns-in-Some g c =
    let line : List ℕ = c.args.line.now.text.now in
    let words = text_words c.in-Some.words.now in
    let old = sketch_of c.args.canvas.now (scope_of c.args.names.now) (g.W.Write.contents c.args.writer.now) in
    let new = sketch_of c.args.canvas.now (scope_of c.draw_let.new.names) (g.W.Write.contents c.args.writer.now) in
    let is : let_words (text_words line) ≡ Some words = c.in-Some.ensures in
    let_line g.C.Canvas c.args.is_verbose (seen c.args.line.now) old new c.draw_let.result words is
    (c.draw_let.ensures, refl, Keeps-refl (g.W.Write.contents c.args.writer.now))

pub returns-in-None : goal.returns-in-None
returns-in-None g c =
    let line : List ℕ = c.args.line.now.text.now in
    let old = sketch_of c.args.canvas.now (scope_of c.args.names.now) (g.W.Write.contents c.args.writer.now) in
    let new = sketch_of c.draw_other.new.canvas (scope_of c.draw_other.new.names) (g.W.Write.contents c.draw_other.new.writer) in
    let is : let_words (text_words line) ≡ None = c.in-None.ensures in
    other_ends g.C.Canvas c.args.is_verbose (seen c.args.line.now) old new c.draw_other.new.canvas c.draw_other.result is c.draw_other.ensures
