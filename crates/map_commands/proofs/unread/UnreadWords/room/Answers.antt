use Rattle.std.proofs.Common.{◌∙◌, sym, ap, cond, Some, None, ℕ, Option}
use Rattle.map_commands.specs.Rooms.{or_else, flat_fault}
use Rattle.map_commands.specs.Places.{room_places}
use Rattle.map_commands.specs.Views.{reading}
use Rattle.map_commands.proofs.Readings.{fresh}
use Rattle.map_commands.proofs.Rooms.{room-fault-is}
use Rattle.map_commands.proofs.unread.UnreadWords.room.Goals as goal

pub returns-in-Err-clause-fault : goal.returns-in-Err-clause-fault
returns-in-Err-clause-fault c =
    ap (λ x. or_else x (flat_fault (reading c.args.self).words)) (sym (fresh (reading c.args.self) room_places c.requires) ∙ c.in-Err.ensures.fault)

pub returns-then-has_area-clause-fault : goal.returns-then-has_area-clause-fault
returns-then-has_area-clause-fault c =
    let ok = c.in-Ok.ensures.ok in
    let e = room-fault-is _ _ ok.1 ok.2 (sym (fresh (reading c.args.self) room_places c.requires) ∙ c.in-Ok.ensures.fault) in
    e ∙ ap (λ t. cond {A = Option ℕ} t None (Some 2)) (sym c.has_area.ensures ∙ c.if-has_area.true)

pub returns-else-has_area-clause-fault : goal.returns-else-has_area-clause-fault
returns-else-has_area-clause-fault c =
    let ok = c.in-Ok.ensures.ok in
    let e = room-fault-is _ _ ok.1 ok.2 (sym (fresh (reading c.args.self) room_places c.requires) ∙ c.in-Ok.ensures.fault) in
    e ∙ ap (λ t. cond {A = Option ℕ} t None (Some 2)) (sym c.has_area.ensures ∙ c.if-has_area.false)
