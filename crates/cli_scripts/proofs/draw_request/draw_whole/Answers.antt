use Rattle.std.proofs.Common.{◌∙◌, sym}
use Rattle.cli_scripts.proofs.Scripted.{start_fits}
use Rattle.cli_scripts.proofs.draw_request.draw_whole.Goals as goal

pub draw_whole_over-requires-clause-fits : goal.draw_whole_over-requires-clause-fits
draw_whole_over-requires-clause-fits g c = start_fits _ _ c.new-maps.ensures.project c.requires.longest

pub draw_whole_over-requires-clause-copy : goal.draw_whole_over-requires-clause-copy
draw_whole_over-requires-clause-copy g c = c.requires.empty ∙ sym c.new-maps.ensures.project
