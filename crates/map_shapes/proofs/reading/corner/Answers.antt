use Rattle.std.proofs.Common.{◌∷◌, ◌∙◌, ap, sym, drop}
use Rattle.map_commands.specs.Places.{coordinate}
use Rattle.map_shapes.proofs.reading.corner.Goals as goal

pub returns-clause-fault : goal.returns-clause-fault
returns-clause-fault c = λ ps. c.number-x.ensures.reads.fault (coordinate ∷ ps) ∙ c.number-y.ensures.reads.fault ps

pub returns-clause-rest : goal.returns-clause-rest
returns-clause-rest c = c.number-y.ensures.rest ∙ ap (drop 1) c.number-x.ensures.rest
