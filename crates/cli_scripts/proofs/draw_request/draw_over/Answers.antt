use Rattle.std.proofs.Common.{◌≡◌, ℕ, ap₂, inr, subst, sym}
use Rattle.map_tables.specs.Projects.{ProjectMaps}
use Rattle.run_canvas.specs.Canvases.{Drafted}
use Rattle.cli_scripts.specs.Drawing.{TellsOthers}
use Rattle.cli_scripts.proofs.Scripts.{quiet_end, told_end}
use Rattle.cli_scripts.proofs.draw_request.draw_over.Goals as goal

draft_is : (p q : ProjectMaps) (n k : ℕ) → q ≡ p → n ≡ k → ◌≡◌ {A = Drafted} (record { maps = p; cap = n }) (record { maps = q; cap = k })
draft_is p q n k copy cap = ap₂ (λ (r : ProjectMaps) (m : ℕ). record { maps = r; cap = m }) (sym copy) cap

pub say_others-requires-clause-fits : goal.say_others-requires-clause-fits
say_others-requires-clause-fits g c = rw c.cap-cap.ensures c.requires.fits

pub returns-clause-drawn : goal.returns-clause-drawn
returns-clause-drawn g c =
    let (told, drawn, handed) = c.draw_once-ending.ensures.drawn in
    inr (record { result = c.draw_once-ending.result.drawn; told = told; drawn = drawn; handed = handed })

pub returns-clause-quiet : goal.returns-clause-quiet
returns-clause-quiet g c = λ is.
    quiet_end c.draw_once-ending.result.drawn c.draw_once-ending.result.how c.draw_once-ending.result.told _ c.args.script.lines.now c.args.script.files.now _ _
    (g.F.Write.contents c.args.faults.now) (g.F.Write.contents c.draw_once-ending.new.faults) (g.F.Write.contents c.say_others.new.faults) c.draw_once-ending.ensures.drawn.2
    c.draw_once-ending.ensures.quiet c.say_others.ensures.others is

pub returns-clause-told : goal.returns-clause-told
returns-clause-told g c =
    let (told, drawn, handed) = c.draw_once-ending.ensures.drawn in
    told_end g.C.Canvas c.args.script.is_verbose c.args.script.lines.now c.args.script.files.now c.draw_once-ending.result.drawn c.draw_once-ending.result.told c.args.canvas.now
    c.draw_once-ending.new.canvas c.draw_once-ending.result.how (g.W.Write.contents c.args.writer.now) told (g.W.Write.contents c.draw_once-ending.new.writer)
    (g.F.Write.contents c.args.faults.now) (g.F.Write.contents c.draw_once-ending.new.faults) (g.F.Write.contents c.say_others.new.faults) drawn handed
    c.draw_once-ending.ensures.told
    (subst (λ (d : Drafted). TellsOthers d c.args.script.lines.now c.args.script.files.now c.draw_once-ending.result.drawn c.draw_once-ending.result.told
    (g.F.Write.contents c.draw_once-ending.new.faults) (g.F.Write.contents c.say_others.new.faults))
    (draft_is _ (g.C.Canvas.maps_in c.args.canvas.now) c.cap-cap.result (g.C.Canvas.cap_in c.args.canvas.now) c.requires.copy c.cap-cap.ensures) c.say_others.ensures.others)
