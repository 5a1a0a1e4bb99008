use Rattle.std.proofs.Common.{◌∙◌, sym, ◌∷◌}
use Rattle.map_commands.specs.Places.{item, side_places}
use Rattle.map_commands.specs.Views.{reading}
use Rattle.map_commands.proofs.Readings.{fresh}
use Rattle.map_commands.proofs.unread.UnreadWords.set_side.Goals as goal

pub returns-in-Ok-clause-fault : goal.returns-in-Ok-clause-fault
returns-in-Ok-clause-fault c =
    sym (fresh (reading c.args.self) (item ∷ side_places) c.requires) ∙ c.item-number.ensures.reads.fault side_places
    ∙ c.in-Ok.ensures.fault

pub returns-in-Err-clause-fault : goal.returns-in-Err-clause-fault
returns-in-Err-clause-fault c =
    sym (fresh (reading c.args.self) (item ∷ side_places) c.requires) ∙ c.item-number.ensures.reads.fault side_places
    ∙ c.in-Err.ensures.fault
