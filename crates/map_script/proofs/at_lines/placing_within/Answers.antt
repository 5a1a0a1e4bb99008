use Rattle.std.proofs.Common.{◌∙◌, ap, ap₂, sym, Some}
use Rattle.map_script.specs.Ats.{placing_to, placing_within}
use Rattle.map_script.proofs.PlacedTwice.{adds_up}
use Rattle.map_script.proofs.at_lines.placing_within.Goals as goal

pub returns-in-Ok-clause-adds : goal.returns-in-Ok-clause-adds
returns-in-Ok-clause-adds c =
    adds_up c.args.outer c.args.inner c.placing_to.result
    (c.placing_to.ensures ∙ ap₂ placing_to c.placed_vertex.ensures (ap Some c.faced.ensures) ∙ sym (ap (placing_within c.args.outer) c.in-Ok.is))
