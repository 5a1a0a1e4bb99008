use Rattle.std.proofs.Common.{◌∙◌, ◌||◌, ℕ, List, ap, arith, sym}
use Rattle.std.specs.Prelude.{not}
use Rattle.map_script.specs.Views.{seen}
use Rattle.map_blocks.specs.Naming.{gives_name, is_plain_line}
use Rattle.map_blocks.proofs.Mentioned.{all_but, all_more, all_none, not_both}
use Rattle.map_blocks.proofs.mentioning.is_plain_name.Goals as goal

pub loop-place-preserved : goal.loop-place-preserved
loop-place-preserved c =
    let x = seen c.line.result in
    all_more (λ (l : ℕ × List ℕ). not (gives_name c.args.name.now l.1) || is_plain_line l.1) c.args.lines.now c.loop-place.place x c.line.ensures
    (not_both (gives_name c.args.name.now x.1) (is_plain_line x.1) ∙ ap not (sym c.gives_unplain.ensures ∙ c.if-gives_unplain.false)) ∙ c.loop-place.invariant

pub returns-then-gives_unplain : goal.returns-then-gives_unplain
returns-then-gives_unplain c =
    let x = seen c.line.result in
    sym (all_but (λ (l : ℕ × List ℕ). not (gives_name c.args.name.now l.1) || is_plain_line l.1) c.args.lines.now c.loop-place.place x c.line.ensures
    (not_both (gives_name c.args.name.now x.1) (is_plain_line x.1) ∙ ap not (sym c.gives_unplain.ensures ∙ c.if-gives_unplain.true))) ∙ c.loop-place.invariant

pub returns : goal.returns
returns c =
    sym (all_none (λ (l : ℕ × List ℕ). not (gives_name c.args.name.now l.1) || is_plain_line l.1) c.args.lines.now c.loop-place.place (omega (arith, c.loop-place-test.false)))
    ∙ c.loop-place.invariant
