use Rattle.std.proofs.Common.{◌∙◌, sym, ap, pos, [], ◌∷◌}
use Rattle.map_tables.specs.Ranges.{last_of}
use Rattle.map_commands.specs.Places.{Number}
use Rattle.map_commands.specs.Reading.{fault_with}
use Rattle.map_commands.specs.Views.{reading}
use Rattle.map_commands.proofs.Readings.{fresh, done}
use Rattle.map_commands.proofs.Rooms.{drop-is}
use Rattle.map_commands.proofs.unread.UnreadWords.drop_item.Goals as goal

pub returns-in-Ok-clause-fault : goal.returns-in-Ok-clause-fault
returns-in-Ok-clause-fault c =
    let r = reading c.next.new.self in
    drop-is _ r.words c.in-Some.word.now c.in-Some-kind_in.kind c.in-Some.ensures.words (sym c.in-Some-kind_in.ensures.value)
    ∙ sym (fresh r (Number (pos 0) (pos (last_of c.in-Some-kind_in.kind)) ∷ []) (c.in-Some.ensures.fault ∙ c.requires))
    ∙ ap (λ n. fault_with r (Number (pos 0) (pos n) ∷ [])) (sym c.last_number.ensures.value)
    ∙ c.item-number.ensures.reads.fault []
    ∙ done _ c.in-Ok.ensures.ok

pub returns-in-Err-clause-fault : goal.returns-in-Err-clause-fault
returns-in-Err-clause-fault c =
    let r = reading c.next.new.self in
    drop-is _ r.words c.in-Some.word.now c.in-Some-kind_in.kind c.in-Some.ensures.words (sym c.in-Some-kind_in.ensures.value)
    ∙ sym (fresh r (Number (pos 0) (pos (last_of c.in-Some-kind_in.kind)) ∷ []) (c.in-Some.ensures.fault ∙ c.requires))
    ∙ ap (λ n. fault_with r (Number (pos 0) (pos n) ∷ [])) (sym c.last_number.ensures.value)
    ∙ c.item-number.ensures.reads.fault []
    ∙ c.in-Err.ensures.fault
