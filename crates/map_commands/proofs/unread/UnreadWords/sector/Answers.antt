use Rattle.std.proofs.Common.{rules, ◌∙◌, [], ◌∷◌}
use Rattle.map_commands.specs.Places.{height, flags, light, name}
use Rattle.map_commands.proofs.Readings.{done}
use Rattle.map_commands.proofs.unread.UnreadWords.sector.Goals as goal

pub returns-in_err-finish-clause-fault : goal.returns-in_err-finish-clause-fault
returns-in_err-finish-clause-fault c =
    let e = c.number-floor.ensures.reads.fault (height ∷ name ∷ name ∷ light ∷ flags ∷ flags ∷ [])
    ∙ c.number-ceiling.ensures.reads.fault (name ∷ name ∷ light ∷ flags ∷ flags ∷ [])
    ∙ c.name-floor_name.ensures.reads.fault (name ∷ light ∷ flags ∷ flags ∷ [])
    ∙ c.name-ceiling_name.ensures.reads.fault (light ∷ flags ∷ flags ∷ [])
    ∙ c.number-light.ensures.reads.fault (flags ∷ flags ∷ [])
    ∙ c.number-special.ensures.reads.fault (flags ∷ [])
    ∙ c.number-tag.ensures.reads.fault ([]) in
    rw e (search rules)

pub returns-clause-fault : goal.returns-clause-fault
returns-clause-fault c =
    c.number-floor.ensures.reads.fault (height ∷ name ∷ name ∷ light ∷ flags ∷ flags ∷ [])
    ∙ c.number-ceiling.ensures.reads.fault (name ∷ name ∷ light ∷ flags ∷ flags ∷ [])
    ∙ c.name-floor_name.ensures.reads.fault (name ∷ light ∷ flags ∷ flags ∷ [])
    ∙ c.name-ceiling_name.ensures.reads.fault (light ∷ flags ∷ flags ∷ [])
    ∙ c.number-light.ensures.reads.fault (flags ∷ flags ∷ [])
    ∙ c.number-special.ensures.reads.fault (flags ∷ [])
    ∙ c.number-tag.ensures.reads.fault ([]) ∙ done _ c.in_ok-finish.ensures.ok
