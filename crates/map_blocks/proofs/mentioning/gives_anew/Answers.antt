use Rattle.std.proofs.Common.{◌∙◌, ℕ, List, arith, false, sym}
use Rattle.map_script.specs.Views.{seen}
use Rattle.map_script.proofs.AnyIncludes.{any_here, any_more, any_none}
use Rattle.map_blocks.specs.Naming.{gives_one_of}
use Rattle.map_blocks.proofs.mentioning.gives_anew.Goals as goal

pub loop-place-preserved : goal.loop-place-preserved
loop-place-preserved c =
    any_more (λ (l : ℕ × List ℕ). gives_one_of l.1 c.args.other.now) c.args.lines.now c.loop-place.place (seen c.line.result) c.line.ensures (sym c.gives_one_of.ensures ∙ c.if-gives_one_of.false) ∙ c.loop-place.invariant

pub returns-then-gives_one_of : goal.returns-then-gives_one_of
returns-then-gives_one_of c =
    sym (any_here (λ (l : ℕ × List ℕ). gives_one_of l.1 c.args.other.now) c.args.lines.now c.loop-place.place (seen c.line.result) c.line.ensures (sym c.gives_one_of.ensures ∙ c.if-gives_one_of.true)) ∙ c.loop-place.invariant

pub returns : goal.returns
returns c = sym (any_none (λ (l : ℕ × List ℕ). gives_one_of l.1 c.args.other.now) c.args.lines.now c.loop-place.place (omega (arith, c.loop-place-test.false))) ∙ c.loop-place.invariant
