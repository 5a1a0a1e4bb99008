use Rattle.std.proofs.Common.{◌∙◌, ap, inl, refl}
use Rattle.run_canvas.specs.Waiting.{Drawing}
use Rattle.run_canvas.proofs.project_canvas.ProjectCanvas.put_alone.Goals as goal

pub returns : goal.returns
returns g c =
    let (settled, alone, lost) = c.if-not-put.ensures.settled refl in
    let (answer, applied, is) = c.apply.ensures.applied in
    inl (record {
      mid = c.put.new.self;
      settled = settled;
      answer = answer;
      applied = applied;
      is = is;
      none = ap (λ (d : Drawing _). d.group) c.apply.ensures.others ∙ settled.none;
      flags = record {
        alone = ap (λ (d : Drawing _). d.is_alone) c.apply.ensures.others ∙ alone;
        lost = ap (λ (d : Drawing _). d.has_lost) c.apply.ensures.others ∙ lost;
      };
    })
