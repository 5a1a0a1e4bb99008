use Rattle.std.proofs.Common.{◌≡◌, ◌+◌, ℕ, List, take, ap, arith}
use Rattle.lump_records.specs.declared.records.Line.{Line}
use Rattle.wad_levels.specs.Drawn.{drawn_view}
use Rattle.wad_import.proofs.CountLemmas.{reach_more, reach_of}
use Rattle.wad_import.proofs.counts.vertex_reach.Goals as goal

pub loop-line-preserved : goal.loop-line-preserved
loop-line-preserved c =
    let none : Line = record { v1 = 0; v2 = 0; flags = 0; special = 0; tag = 0; right = 0; left = 0 } in
    let d = drawn_view c.args.drawn.now in
    let n = c.loop-line.line-index in
    let xs = c.deref-line-items.result.now in
    let same : (k : ℕ) → reach_of d (take k xs) ≡ reach_of d (take k d.lines) = λ k. ap (λ (ys : List Line). reach_of d (take k ys)) c.deref-line-items.ensures.value in
    let more = reach_more d xs n none c.loop-line-test.true in
    let here = c.line_reach.ensures in
    let before = c.loop-line.invariant in
    let after = c.greater-reach.ensures in
    let at = same n in
    let behind = same (n + 1) in
    omega (arith, more, here, before, after, at, behind)
