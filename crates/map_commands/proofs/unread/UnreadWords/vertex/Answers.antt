use Rattle.std.proofs.Common.{rules, ◌∙◌, [], ◌∷◌}
use Rattle.map_commands.specs.Places.{coordinate}
use Rattle.map_commands.proofs.Readings.{done}
use Rattle.map_commands.proofs.unread.UnreadWords.vertex.Goals as goal

pub returns-in_err-finish-clause-fault : goal.returns-in_err-finish-clause-fault
returns-in_err-finish-clause-fault c =
    let e = c.number-x.ensures.reads.fault (coordinate ∷ [])
    ∙ c.number-y.ensures.reads.fault ([]) in
    rw e (search rules)

pub returns-clause-fault : goal.returns-clause-fault
returns-clause-fault c =
    c.number-x.ensures.reads.fault (coordinate ∷ [])
    ∙ c.number-y.ensures.reads.fault ([]) ∙ done _ c.in_ok-finish.ensures.ok
