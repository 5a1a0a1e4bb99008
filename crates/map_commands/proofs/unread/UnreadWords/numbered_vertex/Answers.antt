use Rattle.std.proofs.Common.{◌∙◌, sym, ◌∷◌}
use Rattle.map_commands.specs.Places.{item, vertex_places}
use Rattle.map_commands.specs.Views.{reading}
use Rattle.map_commands.proofs.Readings.{fresh}
use Rattle.map_commands.proofs.unread.UnreadWords.numbered_vertex.Goals as goal

pub returns-in-Ok-clause-fault : goal.returns-in-Ok-clause-fault
returns-in-Ok-clause-fault c =
    sym (fresh (reading c.args.self) (item ∷ vertex_places) c.requires) ∙ c.item-number.ensures.reads.fault vertex_places
    ∙ c.in-Ok.ensures.fault

pub returns-in-Err-clause-fault : goal.returns-in-Err-clause-fault
returns-in-Err-clause-fault c =
    sym (fresh (reading c.args.self) (item ∷ vertex_places) c.requires) ∙ c.item-number.ensures.reads.fault vertex_places
    ∙ c.in-Err.ensures.fault
