use Rattle.std.proofs.Common.{inl, inr}
use Rattle.map_script.specs.Known.{scope_of}
use Rattle.map_script.specs.Views.{seen}
use Rattle.run_script.specs.Lines.{sketch_of}
use Rattle.run_script.proofs.LineEnds.{tried_unsaid}
use Rattle.run_script.proofs.changing.try_command.Goals as goal

pub returns-in-Err-keep_name : goal.returns-in-Err-keep_name
returns-in-Err-keep_name g c = (
  inl c.in-Err-keep_name.ensures.refused,
  tried_unsaid g.C.Canvas c.args.is_verbose (seen c.args.line.now) c.args.text.now
      (sketch_of c.args.canvas.now (scope_of c.args.names.now) (g.W.Write.contents c.args.writer.now)) c.do_line.new.canvas c.in-Ok.numbers.answer
      c.in-Ok.numbers.firsts c.in-Ok.ensures.0 c.in-Ok.ensures.1,
)

pub returns-in-Err-note : goal.returns-in-Err-note
returns-in-Err-note g c = (
  inr c.in-Err-note.ensures,
  tried_unsaid g.C.Canvas c.args.is_verbose (seen c.args.line.now) c.args.text.now
      (sketch_of c.args.canvas.now (scope_of c.args.names.now) (g.W.Write.contents c.args.writer.now)) c.do_line.new.canvas c.in-Ok.numbers.answer
      c.in-Ok.numbers.firsts c.in-Ok.ensures.0 c.in-Ok.ensures.1,
)
