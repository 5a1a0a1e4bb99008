use Rattle.std.proofs.Common.{◌∙◌, ℕ, List, arith, false, sym}
use Rattle.map_script.specs.Views.{seen}
use Rattle.map_script.proofs.AnyIncludes.{any_here, any_more, any_none}
use Rattle.map_blocks.specs.Deeds.{could_lift}
use Rattle.map_blocks.proofs.deeds.one_could_lift.Goals as goal

pub loop-place-preserved : goal.loop-place-preserved
loop-place-preserved c =
    any_more (λ (l : ℕ × List ℕ). could_lift c.args.lines.now c.args.cause l.1) c.args.out.now c.loop-place.place (seen c.line.result) c.line.ensures (sym c.could_lift.ensures ∙ c.if-could_lift.false) ∙ c.loop-place.invariant

pub returns-then-could_lift : goal.returns-then-could_lift
returns-then-could_lift c =
    sym (any_here (λ (l : ℕ × List ℕ). could_lift c.args.lines.now c.args.cause l.1) c.args.out.now c.loop-place.place (seen c.line.result) c.line.ensures (sym c.could_lift.ensures ∙ c.if-could_lift.true)) ∙ c.loop-place.invariant

pub returns : goal.returns
returns c = sym (any_none (λ (l : ℕ × List ℕ). could_lift c.args.lines.now c.args.cause l.1) c.args.out.now c.loop-place.place (omega (arith, c.loop-place-test.false))) ∙ c.loop-place.invariant
