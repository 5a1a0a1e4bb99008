use Rattle.cli_scripts.proofs.draw_request.draw_once.Goals as goal

pub returns-clause-drawn : goal.returns-clause-drawn
returns-clause-drawn g c = (g.W.Write.contents c.draw-drawn.new.writer, c.draw-drawn.ensures.drawn, c.handed_on-how.ensures.handed)
