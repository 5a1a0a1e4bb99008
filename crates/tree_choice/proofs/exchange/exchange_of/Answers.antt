use Rattle.std.proofs.Common.{arith}
use Rattle.tree_choice.proofs.Taking.{taken_all}
use Rattle.tree_choice.proofs.exchange.exchange_of.Goals as goal

pub loop-n-preserved : goal.loop-n-preserved
loop-n-preserved c = record {
  within = c.in_ok-take_next.ensures.within;
  under_way = λ lines. c.in_ok-take_next.ensures.taken lines (c.loop-n.invariant.under_way lines);
}

pub returns : goal.returns
returns c =
    let a = c.loop-n-test.false in
    let b = c.if-len-part.false in
    let l = c.if-len-gt-MOST-2.false in
    taken_all c.args.pieces.now c.args.floors.now c.args.part.now c.loop-n.n c.loop-n.exchange (omega arith) (omega arith) (omega arith) c.loop-n.invariant.under_way
