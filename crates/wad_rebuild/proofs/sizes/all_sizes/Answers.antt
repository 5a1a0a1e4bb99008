use Rattle.std.proofs.Common.{ap, arith}
use Rattle.wad_file.specs.declared.entry.Entry.{Entry}
use Rattle.wad_rebuild.proofs.PartLemmas.{sizes_step}
use Rattle.wad_rebuild.proofs.sizes.all_sizes.Goals as goal

pub loop-k-preserved : goal.loop-k-preserved
loop-k-preserved c =
    let more = sizes_step c.args.wad.now c.loop-k.k in
    let here = ap (λ (e : Entry). e.size) c.entry-entry.ensures in
    let before = c.loop-k.invariant.0 in
    (omega (arith, more, here, before), omega arith)
