use Rattle.std.proofs.Common.{ap}
use Rattle.run_canvas.specs.Canvases.{Drafted}
use Rattle.cli_scripts.proofs.Scripted.{draft_same, project_fits, rehearsed}
use Rattle.cli_scripts.proofs.draw_request.rehearse.Goals as goal

pub draw_whole_over-requires-clause-fits : goal.draw_whole_over-requires-clause-fits
draw_whole_over-requires-clause-fits g c =
    project_fits c.args.project.now c.maps-maps.result.now c.cap.result c.in-Ok.draft c.in-Ok.ensures c.maps-maps.ensures c.cap.ensures.cap c.cap.ensures.fits

pub draw_whole_over-requires-clause-copy : goal.draw_whole_over-requires-clause-copy
draw_whole_over-requires-clause-copy g c = ap (λ (d : Drafted). d.maps) c.in-Ok.ensures

pub returns-clause-tried : goal.returns-clause-tried
returns-clause-tried g c =
    rehearsed c.args.script.lines.now c.args.script.files.now c.in-Ok.draft _ c.draw_whole_over.new.canvas (g.F.Write.contents c.args.faults.now) (g.F.Write.contents c.draw_whole_over.new.faults)
    c.draw_whole_over.result (draft_same c.args.project.now c.maps-maps.result.now c.cap.result c.in-Ok.draft c.in-Ok.ensures c.maps-maps.ensures c.cap.ensures.cap) c.draw_whole_over.ensures.drawn
