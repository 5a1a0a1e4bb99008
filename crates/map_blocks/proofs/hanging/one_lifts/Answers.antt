use Rattle.std.proofs.Common.{◌∙◌, List, ap}
use Rattle.map_blocks.specs.Deeds.{one_could_lift}
use Rattle.map_blocks.specs.Hanging.{ground_of}
use Rattle.map_blocks.specs.declared.deeds.Ground.{Ground}
use Rattle.map_blocks.specs.declared.stop.OpenBlock.{OpenBlock}
use Rattle.map_blocks.proofs.hanging.one_lifts.Goals as goal

pub returns : goal.returns
returns c =
    let stop = c.args.stop.now in
    c.one_could_lift.ensures
    ∙ ap (λ (g : Ground). one_could_lift c.args.lines.now g c.args.left_out.now)
    (c.ground_of-cause.ensures ∙ ap (λ (bs : List OpenBlock). ground_of c.args.lines.now stop.place c.args.line.now stop.code bs) c.deref.ensures.value)
