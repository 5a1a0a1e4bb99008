use Rattle.std.proofs.Common.{◌∙◌, ◌≢◌, arith}
use Rattle.wad_rebuild.proofs.PartLemmas.{made_other}
use Rattle.wad_rebuild.proofs.parts.made_lump.Goals as goal

pub returns-in_default : goal.returns-in_default
returns-in_default c =
    let n = c.args.n in
    let n3 : n ≢ 3 = omega arith in
    let n4 : n ≢ 4 = omega arith in
    let n5 : n ≢ 5 = omega arith in
    let n6 : n ≢ 6 = omega arith in
    let n8 : n ≢ 8 = omega arith in
    let n9 : n ≢ 9 = omega arith in
    c.level_lump.ensures ∙ made_other c.args.wad.now c.args.level c.args.made.now n c.requires.number n3 n4 n5 n6 n8 n9
