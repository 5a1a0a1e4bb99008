use Rattle.std.proofs.Common.{rules, ◌∙◌, [], ◌∷◌}
use Rattle.map_commands.specs.Places.{height, sector_item, name}
use Rattle.map_commands.proofs.Readings.{done}
use Rattle.map_commands.proofs.unread.UnreadWords.side.Goals as goal

pub returns-in_err-finish-clause-fault : goal.returns-in_err-finish-clause-fault
returns-in_err-finish-clause-fault c =
    let e = c.number-x_offset.ensures.reads.fault (height ∷ name ∷ name ∷ name ∷ sector_item ∷ [])
    ∙ c.number-y_offset.ensures.reads.fault (name ∷ name ∷ name ∷ sector_item ∷ [])
    ∙ c.name-upper.ensures.reads.fault (name ∷ name ∷ sector_item ∷ [])
    ∙ c.name-lower.ensures.reads.fault (name ∷ sector_item ∷ [])
    ∙ c.name-middle.ensures.reads.fault (sector_item ∷ [])
    ∙ c.item-sector.ensures.reads.fault ([]) in
    rw e (search rules)

pub returns-clause-fault : goal.returns-clause-fault
returns-clause-fault c =
    c.number-x_offset.ensures.reads.fault (height ∷ name ∷ name ∷ name ∷ sector_item ∷ [])
    ∙ c.number-y_offset.ensures.reads.fault (name ∷ name ∷ name ∷ sector_item ∷ [])
    ∙ c.name-upper.ensures.reads.fault (name ∷ name ∷ sector_item ∷ [])
    ∙ c.name-lower.ensures.reads.fault (name ∷ sector_item ∷ [])
    ∙ c.name-middle.ensures.reads.fault (sector_item ∷ [])
    ∙ c.item-sector.ensures.reads.fault ([]) ∙ done _ c.in_ok-finish.ensures.ok
