use Rattle.std.proofs.Common.{refl}
use Rattle.wad_rebuild.specs.Held.{part_of_entry}
use Rattle.wad_rebuild.proofs.AddLemmas.{list_one, one_fits, one_overfills}
use Rattle.wad_rebuild.proofs.parts.put_part.Goals as goal

pub returns-then-not-has_room : goal.returns-then-not-has_room
returns-then-not-has_room c =
    let e = c.args.entry in
    one_overfills c.args.to.now (record { name = e.name; content = part_of_entry e }) e.size c.has_room.result refl c.has_room.ensures c.if-not-has_room.true

pub push_part-requires : goal.push_part-requires
push_part-requires c = one_fits c.args.to.now c.args.entry.size c.has_room.result c.requires c.has_room.ensures c.if-not-has_room.false

pub returns-in-Ok : goal.returns-in-Ok
returns-in-Ok c =
    let e = c.args.entry in
    list_one c.args.to.now (record { lumps = c.push_part.new.self; most = c.args.to.now.most }) (record { name = e.name; content = part_of_entry e }) e.size
    c.has_room.result c.requires refl c.has_room.ensures c.if-not-has_room.false c.in-Ok.ensures.ok refl
