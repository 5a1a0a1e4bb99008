use Rattle.std.proofs.Common.{length, refl}
use Rattle.wad_file.specs.Placed.{AtHand}
use Rattle.wad_rebuild.proofs.AddLemmas.{list_one, one_fits, one_overfills}
use Rattle.wad_rebuild.proofs.parts.put_lump.Goals as goal

pub returns-then-not-has_room : goal.returns-then-not-has_room
returns-then-not-has_room c =
    one_overfills c.args.to.now (record { name = c.args.name; content = AtHand c.args.bytes.now }) (length c.args.bytes.now) c.has_room.result refl c.has_room.ensures
    c.if-not-has_room.true

pub push-requires : goal.push-requires
push-requires c = one_fits c.args.to.now (length c.args.bytes.now) c.has_room.result c.requires c.has_room.ensures c.if-not-has_room.false

pub returns-in-Ok : goal.returns-in-Ok
returns-in-Ok c =
    list_one c.args.to.now (record { lumps = c.push.new.self; most = c.args.to.now.most }) (record { name = c.args.name; content = AtHand c.args.bytes.now }) (length c.args.bytes.now)
    c.has_room.result c.requires refl c.has_room.ensures c.if-not-has_room.false c.in-Ok.ensures.ok refl
