use Rattle.std.proofs.Common.{rules, ◌∙◌, [], ◌∷◌, pos}
use Rattle.map_commands.specs.Places.{flags, item, NumberOrNone}
use Rattle.map_commands.proofs.Readings.{done}
use Rattle.map_commands.proofs.unread.UnreadWords.line.Goals as goal

pub returns-in_err-finish-clause-fault : goal.returns-in_err-finish-clause-fault
returns-in_err-finish-clause-fault c =
    let e = c.item-v1.ensures.reads.fault (item ∷ flags ∷ flags ∷ flags ∷ item ∷ NumberOrNone (pos 0) (pos 32766) ∷ [])
    ∙ c.item-v2.ensures.reads.fault (flags ∷ flags ∷ flags ∷ item ∷ NumberOrNone (pos 0) (pos 32766) ∷ [])
    ∙ c.item-flags.ensures.reads.fault (flags ∷ flags ∷ item ∷ NumberOrNone (pos 0) (pos 32766) ∷ [])
    ∙ c.item-special.ensures.reads.fault (flags ∷ item ∷ NumberOrNone (pos 0) (pos 32766) ∷ [])
    ∙ c.item-tag.ensures.reads.fault (item ∷ NumberOrNone (pos 0) (pos 32766) ∷ [])
    ∙ c.item-right.ensures.reads.fault (NumberOrNone (pos 0) (pos 32766) ∷ [])
    ∙ c.left-left.ensures.reads.fault ([]) in
    rw e (search rules)

pub returns-clause-fault : goal.returns-clause-fault
returns-clause-fault c =
    c.item-v1.ensures.reads.fault (item ∷ flags ∷ flags ∷ flags ∷ item ∷ NumberOrNone (pos 0) (pos 32766) ∷ [])
    ∙ c.item-v2.ensures.reads.fault (flags ∷ flags ∷ flags ∷ item ∷ NumberOrNone (pos 0) (pos 32766) ∷ [])
    ∙ c.item-flags.ensures.reads.fault (flags ∷ flags ∷ item ∷ NumberOrNone (pos 0) (pos 32766) ∷ [])
    ∙ c.item-special.ensures.reads.fault (flags ∷ item ∷ NumberOrNone (pos 0) (pos 32766) ∷ [])
    ∙ c.item-tag.ensures.reads.fault (item ∷ NumberOrNone (pos 0) (pos 32766) ∷ [])
    ∙ c.item-right.ensures.reads.fault (NumberOrNone (pos 0) (pos 32766) ∷ [])
    ∙ c.left-left.ensures.reads.fault ([]) ∙ done _ c.in_ok-finish.ensures.ok
