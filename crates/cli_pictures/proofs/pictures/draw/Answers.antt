use Rattle.std.specs.Prelude.{is_some, option_map}
use Rattle.cli_pictures.proofs.Picturing.{drawn_to}
use Rattle.cli_pictures.proofs.pictures.draw.Goals as goal

pub returns-in-Ok-clause-drawn : goal.returns-in-Ok-clause-drawn
returns-in-Ok-clause-drawn g c =
    drawn_to c.args.wanted.layers (option_map (λ s. s.now) c.args.wanted.map) (is_some c.args.wanted.out) c.args.maps.now c.draw_laid.result
    (g.W.Write.contents c.args.writer.now) (g.W.Write.contents c.draw_laid.new.writer) c.in-Some.map.now.tables c.in-Ok.overlay c.in-Some.ensures
    c.in-Ok.ensures.laid c.draw_laid.ensures.drawn
