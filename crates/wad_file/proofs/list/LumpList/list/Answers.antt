use Rattle.std.proofs.Common.{◌≡◌, ◌+◌, length, refl, rules}
use Rattle.wad_file.specs.declared.list.ListedLump.{ListedLump}
use Rattle.wad_file.proofs.PlacedLemmas.{listed_more}
use Rattle.wad_file.proofs.list.LumpList.list.Goals as goal

pub invariant_of-self-2 : goal.invariant_of-self-2
invariant_of-self-2 c =
    let a = c.self.inside in
    let eight : length c.args.name.bytes ≡ 8 = search rules in
    let x : ListedLump = record { entry = record { at = 12 + a.len; size = c.args.len; name = c.args.name }; content = c.args.content } in
    listed_more a.lumps.items c.push.new.self.items x a.len c.self.invariant c.in-Ok.ensures.items refl c.requires.long eight
