use Rattle.std.proofs.Common.{◌∙◌, refl, subst, sym}
use Rattle.wad_file.specs.Lumps.{Lump}
use Rattle.cli_rebuild.specs.Holding.{IsHeldPart}
use Rattle.cli_print.proofs.Taking.{takes_one}
use Rattle.cli_rebuild.proofs.Holding.{adds_one}
use Rattle.cli_rebuild.proofs.held.hold_one.Goals as goal

pub push-requires : goal.push-requires
push-requires g c =
    let l : Lump = record { name = c.args.entry.name; bytes = c.deref.result.now } in
    takes_one c.args.writer.now l c.len.result c.has_room.result c.requires (c.len.ensures ∙ sym c.deref.ensures.len) c.has_room.ensures c.if-not-has_room.false

pub returns-in-Ok-push : goal.returns-in-Ok-push
returns-in-Ok-push g c =
    let l : Lump = record { name = c.args.entry.name; bytes = c.deref.result.now } in
    let takes = takes_one c.args.writer.now l c.len.result c.has_room.result c.requires (c.len.ensures ∙ sym c.deref.ensures.len) c.has_room.ensures c.if-not-has_room.false in
    adds_one c.args.entry c.args.writer.now c.push.new.self l refl (subst (IsHeldPart c.args.entry) (sym c.deref.ensures.value) c.in-Ok.ensures) takes c.in-Ok-push.ensures
