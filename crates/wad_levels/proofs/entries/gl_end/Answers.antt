use Rattle.std.proofs.Common.{◌∙◌, ◌<◌, ◌≤◌, sym, arith}
use Rattle.wad_levels.specs.Entries.{is_gl}
use Rattle.wad_file.specs.Directory.{lump_count}
use Rattle.wad_levels.proofs.RunLemmas.{run_ends, run_more, run_to_end}
use Rattle.wad_levels.proofs.entries.gl_end.Goals as goal

pub returns-then-not-is_gl : goal.returns-then-not-is_gl
returns-then-not-is_gl c =
    let wad = c.args.wad.now in
    let among : c.loop-k.k < lump_count wad = omega (arith, c.loop-k-test.true, c.count-count.ensures.count) in
    run_ends (is_gl wad c.args.marker) c.args.from (lump_count wad) c.loop-k.k (omega arith) among c.loop-k.invariant
    (sym c.is_gl.ensures ∙ c.if-not-is_gl.true)

pub loop-k-preserved : goal.loop-k-preserved
loop-k-preserved c =
    run_more (is_gl c.args.wad.now c.args.marker) c.args.from c.loop-k.k c.loop-k.invariant (sym c.is_gl.ensures ∙ c.if-not-is_gl.false)

pub returns : goal.returns
returns c =
    let wad = c.args.wad.now in
    let past : lump_count wad ≤ c.loop-k.k = omega (arith, c.loop-k-test.false, c.count-count.ensures.count) in
    rw c.count-count.ensures.count (run_to_end (is_gl wad c.args.marker) c.args.from (lump_count wad) c.loop-k.k c.requires.among past c.loop-k.invariant)
