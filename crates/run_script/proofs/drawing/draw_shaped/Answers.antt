use Rattle.std.proofs.Common.{inl, refl}
use Rattle.run_script.specs.Drawn.{at_first}
use Rattle.run_script.proofs.drawing.draw_shaped.Goals as goal

pub returns-in-Err-clause-drawn : goal.returns-in-Err-clause-drawn
returns-in-Err-clause-drawn g c = (
  inl refl,
  record {
    count = 0;
    last = at_first c.args.canvas.now (g.W.Write.contents c.args.writer.now) c.args.lines.now;
    reached = refl;
    left = c.args.canvas.now;
    settled = inl refl;
    leaves = c.cut_off.ensures;
  },
)
