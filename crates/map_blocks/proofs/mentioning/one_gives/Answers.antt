use Rattle.std.proofs.Common.{◌∙◌, ℕ, List, arith, false, sym, take}
use Rattle.std.proofs.lemmas.List.{length-take}
use Rattle.map_script.specs.Views.{seen}
use Rattle.map_script.proofs.AnyIncludes.{any_here, any_more, any_none}
use Rattle.map_blocks.specs.Naming.{gives_name}
use Rattle.map_blocks.proofs.Mentioned.{in_front}
use Rattle.map_blocks.proofs.mentioning.one_gives.Goals as goal

pub loop-place-preserved : goal.loop-place-preserved
loop-place-preserved c =
    any_more (λ (l : ℕ × List ℕ). gives_name c.args.name.now l.1) (take c.args.count c.args.lines.now) c.loop-place.place (seen c.line.result)
    (in_front c.args.lines.now c.args.count c.loop-place.place (seen c.line.result) c.loop-place-test.true c.line.ensures) (sym c.gives_name.ensures ∙ c.if-gives_name.false) ∙ c.loop-place.invariant

pub returns-then-gives_name : goal.returns-then-gives_name
returns-then-gives_name c =
    sym (any_here (λ (l : ℕ × List ℕ). gives_name c.args.name.now l.1) (take c.args.count c.args.lines.now) c.loop-place.place (seen c.line.result)
    (in_front c.args.lines.now c.args.count c.loop-place.place (seen c.line.result) c.loop-place-test.true c.line.ensures) (sym c.gives_name.ensures ∙ c.if-gives_name.true)) ∙ c.loop-place.invariant

pub returns : goal.returns
returns c =
    sym (any_none (λ (l : ℕ × List ℕ). gives_name c.args.name.now l.1) (take c.args.count c.args.lines.now) c.loop-place.place
    (omega (arith, c.loop-place-test.false, length-take c.args.count c.args.lines.now))) ∙ c.loop-place.invariant
