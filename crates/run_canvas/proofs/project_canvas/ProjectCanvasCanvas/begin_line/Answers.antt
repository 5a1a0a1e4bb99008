use Rattle.std.proofs.Common.{◌∙◌, Bool, ap, ap₂, false, refl}
use Rattle.std.specs.Prelude.{is_some}
use Rattle.run_canvas.specs.Waiting.{Drawing}
use Rattle.run_canvas.proofs.project_canvas.ProjectCanvasCanvas.begin_line.Goals as goal

pub returns-clause-begun : goal.returns-clause-begun
returns-clause-begun g c = λ done. record {
  mid = c.put_if.new.self;
  settled = c.if-not-put_if.ensures.settled refl;
  is = ap₂ (λ (d : Drawing _) (b : Bool). record { project = d.project; group = d.group; has_spare = d.has_spare; is_alone = c.args.alone; holds_earlier = b; has_lost = false }) c.self-2.view_is
      (c.is_some-self-inside.ensures ∙ ap (λ (d : Drawing _). is_some d.group) c.self-2.view_is);
}
