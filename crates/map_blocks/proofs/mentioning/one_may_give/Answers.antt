use Rattle.std.proofs.Common.{◌∙◌, ℕ, List, arith, false, sym}
use Rattle.map_script.specs.Views.{seen}
use Rattle.map_script.proofs.AnyIncludes.{any_here, any_more, any_none}
use Rattle.map_blocks.specs.Naming.{may_give}
use Rattle.map_blocks.proofs.mentioning.one_may_give.Goals as goal

pub loop-place-preserved : goal.loop-place-preserved
loop-place-preserved c =
    any_more (λ (l : ℕ × List ℕ). may_give c.args.name.now l.1) c.args.lines.now c.loop-place.place (seen c.line.result) c.line.ensures (sym c.may_give.ensures ∙ c.if-may_give.false) ∙ c.loop-place.invariant

pub returns-then-may_give : goal.returns-then-may_give
returns-then-may_give c =
    sym (any_here (λ (l : ℕ × List ℕ). may_give c.args.name.now l.1) c.args.lines.now c.loop-place.place (seen c.line.result) c.line.ensures (sym c.may_give.ensures ∙ c.if-may_give.true)) ∙ c.loop-place.invariant

pub returns : goal.returns
returns c = sym (any_none (λ (l : ℕ × List ℕ). may_give c.args.name.now l.1) c.args.lines.now c.loop-place.place (omega (arith, c.loop-place-test.false))) ∙ c.loop-place.invariant
