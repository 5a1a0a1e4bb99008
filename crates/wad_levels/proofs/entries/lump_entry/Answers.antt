use Rattle.std.proofs.Common.{◌∙◌, sym}
use Rattle.std.specs.Prelude.{◌==◌}
use Rattle.std.proofs.lemmas.Bool.{eq-eqb}
use Rattle.wad_levels.specs.Entries.{rank}
use Rattle.wad_levels.proofs.RunLemmas.{differ-eqb, found_here, found_behind, found_none}
use Rattle.wad_levels.proofs.entries.lump_entry.Goals as goal

pub returns-then-rank-number-clause-entry : goal.returns-then-rank-number-clause-entry
returns-then-rank-number-clause-entry c =
    let wad = c.args.wad.now in
    let passes = eq-eqb (rank wad c.loop-k.k) c.args.number (sym c.rank.ensures ∙ c.if-rank-number.true) in
    sym (c.loop-k.invariant ∙ found_here (λ k. rank wad k == c.args.number) c.loop-k.k c.min-end.result c.loop-k-test.true passes)

pub loop-k-preserved : goal.loop-k-preserved
loop-k-preserved c =
    let wad = c.args.wad.now in
    let fails = differ-eqb (rank wad c.loop-k.k) c.args.number (λ e. c.if-rank-number.false (c.rank.ensures ∙ e)) in
    c.loop-k.invariant ∙ found_behind (λ k. rank wad k == c.args.number) c.loop-k.k c.min-end.result c.loop-k-test.true fails

pub returns-clause-entry : goal.returns-clause-entry
returns-clause-entry c =
    let wad = c.args.wad.now in
    sym (c.loop-k.invariant ∙ found_none (λ k. rank wad k == c.args.number) c.loop-k.k c.min-end.result c.loop-k-test.false)
