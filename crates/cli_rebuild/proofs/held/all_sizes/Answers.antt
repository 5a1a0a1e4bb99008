use Rattle.std.proofs.Common.{ap, arith}
use Rattle.wad_file.specs.declared.entry.Entry.{Entry}
use Rattle.cli_rebuild.proofs.Holding.{sizes_more}
use Rattle.cli_rebuild.proofs.held.all_sizes.Goals as goal

pub loop-k-preserved : goal.loop-k-preserved
loop-k-preserved c =
    let more = sizes_more c.args.directory.now c.loop-k.k in
    let here = ap (λ (e : Entry). e.size) c.entry_in-entry.ensures in
    let before = c.loop-k.invariant.0 in
    (omega (arith, more, here, before), omega arith)
