use Rattle.std.proofs.Common.{◌≡◌, ◌+◌, ◌==◌, ◌∙◌, cond, length, get_or, ap, arith}
use Rattle.map_script.specs.Cuts.{last_cut}
use Rattle.map_script.proofs.SumCuts.{count_after, cut_after, cut_within, operand_after}
use Rattle.map_script.proofs.cutting.last_cut.Goals as goal

pub loop-i-preserved : goal.loop-i-preserved
loop-i-preserved c =
    let text = c.args.text.now in
    let i = c.loop-i.i in
    record {
      found = cut_after c.args.one c.args.other text i c.loop-i.opened c.loop-i.closed c.loop-i.found c.newest-found.result c.loop-i.has_operand
          c.is_cut-here.result c.loop-i.invariant.found c.loop-i.invariant.operand c.loop-i.invariant.opened c.loop-i.invariant.closed
          c.is_cut-here.ensures c.newest-found.ensures;
      operand = operand_after text i c.is_sign-has_operand.result c.is_sign-has_operand.ensures;
      opened = count_after (λ b. b == 40) text i c.with_one-opened.result c.loop-i-test.true
          (c.with_one-opened.ensures ∙ ap (λ n. n + cond (get_or text i 0 == 40) 1 0) c.loop-i.invariant.opened);
      closed = count_after (λ b. b == 41) text i c.with_one-closed.result c.loop-i-test.true
          (c.with_one-closed.ensures ∙ ap (λ n. n + cond (get_or text i 0 == 41) 1 0) c.loop-i.invariant.closed);
    }

pub returns-clause-within : goal.returns-clause-within
returns-clause-within c =
    let text = c.args.text.now in
    let all : c.loop-i.i ≡ length text = omega arith in
    cut_within c.args.one c.args.other text (length text) c.loop-i.found
    (c.loop-i.invariant.found ∙ ap (last_cut c.args.one c.args.other text) all)
