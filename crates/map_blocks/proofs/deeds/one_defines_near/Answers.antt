use Rattle.std.proofs.Common.{◌∙◌, ℕ, List, arith, false, sym}
use Rattle.map_script.specs.Views.{seen}
use Rattle.map_script.proofs.AnyIncludes.{any_here, any_more, any_none}
use Rattle.map_blocks.specs.Deeds.{defines_near}
use Rattle.map_blocks.proofs.deeds.one_defines_near.Goals as goal

pub loop-place-preserved : goal.loop-place-preserved
loop-place-preserved c =
    any_more (λ (l : ℕ × List ℕ). defines_near l.1 c.args.word.now) c.args.lines.now c.loop-place.place (seen c.line.result) c.line.ensures (sym c.defines_near.ensures ∙ c.if-defines_near.false) ∙ c.loop-place.invariant

pub returns-then-defines_near : goal.returns-then-defines_near
returns-then-defines_near c =
    sym (any_here (λ (l : ℕ × List ℕ). defines_near l.1 c.args.word.now) c.args.lines.now c.loop-place.place (seen c.line.result) c.line.ensures (sym c.defines_near.ensures ∙ c.if-defines_near.true)) ∙ c.loop-place.invariant

pub returns : goal.returns
returns c = sym (any_none (λ (l : ℕ × List ℕ). defines_near l.1 c.args.word.now) c.args.lines.now c.loop-place.place (omega (arith, c.loop-place-test.false))) ∙ c.loop-place.invariant
