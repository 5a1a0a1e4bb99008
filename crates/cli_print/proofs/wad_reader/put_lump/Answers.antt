use Rattle.std.proofs.Common.{◌∙◌, sym}
use Rattle.wad_file.specs.Lumps.{Lump}
use Rattle.cli_print.proofs.Taking.{takes_on, takes_one}
use Rattle.cli_print.proofs.wad_reader.put_lump.Goals as goal

pub push-requires : goal.push-requires
push-requires g c =
    let l : Lump = record { name = c.args.entry.name; bytes = c.deref.result.now } in
    takes_one c.args.writer.now l c.len.result c.has_room.result c.requires (c.len.ensures ∙ sym c.deref.ensures.len) c.has_room.ensures c.if-not-has_room.false

pub returns-in-Ok : goal.returns-in-Ok
returns-in-Ok g c =
    let l : Lump = record { name = c.args.entry.name; bytes = c.deref.result.now } in
    takes_on c.args.writer.now c.push.new.self l
    (takes_one c.args.writer.now l c.len.result c.has_room.result c.requires (c.len.ensures ∙ sym c.deref.ensures.len) c.has_room.ensures c.if-not-has_room.false)
    c.in-Ok.ensures
