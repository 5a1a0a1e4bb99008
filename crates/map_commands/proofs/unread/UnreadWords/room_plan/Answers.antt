use Rattle.std.proofs.Common.{rules, ◌∙◌, [], ◌∷◌}
use Rattle.map_commands.specs.Places.{coordinate, height, light, name}
use Rattle.map_commands.proofs.Readings.{done, took}
use Rattle.map_commands.proofs.unread.UnreadWords.room_plan.Goals as goal

pub returns-in_err-finish-clause-fault : goal.returns-in_err-finish-clause-fault
returns-in_err-finish-clause-fault c =
    let e = c.number-west.ensures.reads.fault (coordinate ∷ coordinate ∷ coordinate ∷ height ∷ height ∷ name ∷ name ∷ name ∷ light ∷ [])
    ∙ c.number-south.ensures.reads.fault (coordinate ∷ coordinate ∷ height ∷ height ∷ name ∷ name ∷ name ∷ light ∷ [])
    ∙ c.number-east.ensures.reads.fault (coordinate ∷ height ∷ height ∷ name ∷ name ∷ name ∷ light ∷ [])
    ∙ c.number-north.ensures.reads.fault (height ∷ height ∷ name ∷ name ∷ name ∷ light ∷ [])
    ∙ c.number-floor.ensures.reads.fault (height ∷ name ∷ name ∷ name ∷ light ∷ [])
    ∙ c.number-ceiling.ensures.reads.fault (name ∷ name ∷ name ∷ light ∷ [])
    ∙ c.name-floor_name.ensures.reads.fault (name ∷ name ∷ light ∷ [])
    ∙ c.name-ceiling_name.ensures.reads.fault (name ∷ light ∷ [])
    ∙ c.name-wall.ensures.reads.fault (light ∷ [])
    ∙ c.number-light.ensures.reads.fault ([]) in
    rw e (search rules)

pub returns-clause-fault : goal.returns-clause-fault
returns-clause-fault c =
    c.number-west.ensures.reads.fault (coordinate ∷ coordinate ∷ coordinate ∷ height ∷ height ∷ name ∷ name ∷ name ∷ light ∷ [])
    ∙ c.number-south.ensures.reads.fault (coordinate ∷ coordinate ∷ height ∷ height ∷ name ∷ name ∷ name ∷ light ∷ [])
    ∙ c.number-east.ensures.reads.fault (coordinate ∷ height ∷ height ∷ name ∷ name ∷ name ∷ light ∷ [])
    ∙ c.number-north.ensures.reads.fault (height ∷ height ∷ name ∷ name ∷ name ∷ light ∷ [])
    ∙ c.number-floor.ensures.reads.fault (height ∷ name ∷ name ∷ name ∷ light ∷ [])
    ∙ c.number-ceiling.ensures.reads.fault (name ∷ name ∷ name ∷ light ∷ [])
    ∙ c.name-floor_name.ensures.reads.fault (name ∷ name ∷ light ∷ [])
    ∙ c.name-ceiling_name.ensures.reads.fault (name ∷ light ∷ [])
    ∙ c.name-wall.ensures.reads.fault (light ∷ [])
    ∙ c.number-light.ensures.reads.fault ([]) ∙ done _ c.in_ok-finish.ensures.ok

pub returns-clause-ok : goal.returns-clause-ok
returns-clause-ok c =
    let t = took _ _ _ _ _ c.number-west.ensures.reads
    (took _ _ _ _ _ c.number-south.ensures.reads (took _ _ _ _ _ c.number-east.ensures.reads
    (took _ _ _ _ _ c.number-north.ensures.reads (took _ _ _ _ _ c.number-floor.ensures.reads
    (took _ _ _ _ _ c.number-ceiling.ensures.reads
    (took _ _ _ _ _ c.name-floor_name.ensures.reads
    (took _ _ _ _ _ c.name-ceiling_name.ensures.reads
    (took _ _ _ _ _ c.name-wall.ensures.reads (took _ _ _ _ _ c.number-light.ensures.reads
    (c.in_ok-finish.ensures.ok)))))))))) in
    search (rules, t)
