use Rattle.std.proofs.Common.{arith, refl}
use Rattle.map_script.proofs.FileParts.{grown_last}
use Rattle.map_script.proofs.files.grow_last.Goals as goal

pub returns-in-Some-checked_add-clause-grown : goal.returns-in-Some-checked_add-clause-grown
returns-in-Some-checked_add-clause-grown c = λ _.
    grown_last c.args.parts.now.items c.in-Some.last c.in-Some-checked_add.all c.args.count c.index.result.now c.index-2.result.now c.index_mut.result.now c.args.name.now
    (omega (arith, c.in-Some.ensures, c.args.parts.now.ok.0)) c.index.ensures c.index-2.ensures c.index_mut.ensures.value (c.if-not-is_of.ensures refl)
    c.in-Some-checked_add.ensures.1
