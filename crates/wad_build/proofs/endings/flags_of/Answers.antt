use Rattle.std.proofs.Common.{◌≡◌, ◌∙◌, ◌<◌, ◌+◌, ◌-◌, ℕ, length, refl, subst, arith}
use Rattle.std.specs.Prelude.{min}
use Rattle.wad_build.proofs.EndingLemmas.{SoFar, here_before, no_flag, flag_set}
use Rattle.wad_build.proofs.endings.flags_of.Goals as goal
use Rattle.wad_build.proofs.endings.flags_of.Goals.{then-place-len, else-place-len}

pub loop-behind-preserved : goal.loop-behind-preserved
loop-behind-preserved c =
    let words = c.args.words.now in
    let place : ℕ = length c.args.words.now - 1 - c.loop-behind.behind in
    let test = c.loop-behind-test.true in
    let same : length c.args.words.now - (c.loop-behind.behind + 1) ≡ length c.args.words.now - 1 - c.loop-behind.behind = omega arith in
    let prev : length c.args.words.now - c.loop-behind.behind ≡ length c.args.words.now - 1 - c.loop-behind.behind + 1 = omega (arith, test) in
    let within : length c.args.words.now - 1 - c.loop-behind.behind < length c.args.words.now = omega (arith, test) in
    let s = subst (λ (k : ℕ). SoFar c.args.lines c.args.words.now k (min (length c.args.words.now) 32768) c.loop-behind.flags.items c.loop-behind.ends) prev c.loop-behind.invariant in
    let e = c.goes_on-ends.ensures ∙ here_before c.args.lines c.args.words.now place _ c.loop-behind.ends within refl s.here in
    elim c.if-place-len.branch [
      | then-place-len w ↦ rw (same, w.flags-is)
          (flag_set c.args.lines c.args.words.now place (min (length c.args.words.now) 32768) c.loop-behind.flags.items c.loop-behind.ends c.goes_on-ends.result
          (omega (arith, w.if-place-len.true, c.len.ensures)) e s)
      | else-place-len w ↦ rw (same, w.flags-is)
          (no_flag c.args.lines c.args.words.now place (min (length c.args.words.now) 32768) c.loop-behind.flags.items c.loop-behind.ends c.goes_on-ends.result
          (omega (arith, w.if-place-len.false, c.len.ensures)) e s)
    ]
