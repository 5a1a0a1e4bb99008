use Rattle.std.proofs.Common.{◌∙◌, ◌+◌, ◌<◌, ◌≤◌, sym, arith}
use Rattle.wad_levels.specs.Entries.{goes_on}
use Rattle.wad_file.specs.Directory.{lump_count}
use Rattle.wad_levels.proofs.RunLemmas.{run_ends, run_more, run_to_end}
use Rattle.wad_levels.proofs.entries.lumps_end.Goals as goal

pub returns-then-not-goes_on : goal.returns-then-not-goes_on
returns-then-not-goes_on c =
    let wad = c.args.wad.now in
    let among : c.loop-k.k < lump_count wad = omega (arith, c.loop-k-test.true, c.count-count.ensures.count) in
    run_ends (goes_on wad c.args.marker) (c.args.marker + 1) (lump_count wad) c.loop-k.k (omega arith) among c.loop-k.invariant
    (sym c.goes_on.ensures ∙ c.if-not-goes_on.true)

pub loop-k-preserved : goal.loop-k-preserved
loop-k-preserved c =
    run_more (goes_on c.args.wad.now c.args.marker) (c.args.marker + 1) c.loop-k.k c.loop-k.invariant (sym c.goes_on.ensures ∙ c.if-not-goes_on.false)

pub returns : goal.returns
returns c =
    let wad = c.args.wad.now in
    let past : lump_count wad ≤ c.loop-k.k = omega (arith, c.loop-k-test.false, c.count-count.ensures.count) in
    let low : c.args.marker + 1 ≤ lump_count wad = omega (arith, c.requires.among) in
    rw c.count-count.ensures.count (run_to_end (goes_on wad c.args.marker) (c.args.marker + 1) (lump_count wad) c.loop-k.k low past c.loop-k.invariant)
