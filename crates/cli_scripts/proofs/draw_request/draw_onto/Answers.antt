use Rattle.std.proofs.Common.{inr}
use Rattle.cli_scripts.proofs.Scripts.{whole_end}
use Rattle.cli_scripts.proofs.draw_request.draw_onto.Goals as goal

pub returns-clause-drawn : goal.returns-clause-drawn
returns-clause-drawn g c =
    let (told, drawn, handed) = c.draw_once.ensures.drawn in
    inr (record { result = c.draw_once.result.drawn; told = told; drawn = drawn; handed = handed })

pub returns-clause-quiet : goal.returns-clause-quiet
returns-clause-quiet g c = λ is. c.draw_once.ensures.quiet (whole_end _ _ _ _ c.draw_once.ensures.drawn.2 is)
