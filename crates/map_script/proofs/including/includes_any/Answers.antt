use Rattle.std.proofs.Common.{◌∙◌, arith, false, sym}
use Rattle.map_script.specs.Includes.{is_include}
use Rattle.map_script.specs.Views.{seen}
use Rattle.map_script.proofs.AnyIncludes.{any_here, any_more, any_none}
use Rattle.map_script.proofs.including.includes_any.Goals as goal

pub loop-place-preserved : goal.loop-place-preserved
loop-place-preserved c =
    any_more is_include c.args.lines.now c.loop-place.place (seen c.line.result) c.line.ensures (sym c.is_include.ensures ∙ c.if-is_include.false) ∙ c.loop-place.invariant

pub returns-then-is_include : goal.returns-then-is_include
returns-then-is_include c =
    sym (any_here is_include c.args.lines.now c.loop-place.place (seen c.line.result) c.line.ensures (sym c.is_include.ensures ∙ c.if-is_include.true)) ∙ c.loop-place.invariant

pub returns : goal.returns
returns c = sym (any_none is_include c.args.lines.now c.loop-place.place (omega (arith, c.loop-place-test.false))) ∙ c.loop-place.invariant
