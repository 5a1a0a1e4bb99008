use Rattle.std.proofs.Common.{Option, ◌≤◌, sym, subst, length, List, arith}
use Rattle.std.proofs.lemmas.List.Sorted.{length_permutation}
use Rattle.std.specs.Prelude.{IfSome, IfOk, Result, Ok, Err}
use Rattle.tree_choice.specs.declared.exchange.Exchange.{Exchange}
use Rattle.tree_choice.specs.declared.losses.LossBlock.{LossBlock}
use Rattle.tree_choice.specs.Exchanges.{IsExchangeOf}
use Rattle.tree_choice.specs.Floors.{AreFloors, IsExchanged}
use Rattle.tree_choice.specs.Losses.{losses_in, wholes, rests}
use Rattle.tree_choice.proofs.LossLemmas.{exchanged_in_order}
use Rattle.tree_choice.proofs.exchange.floors_of_part.Goals as goal
use Rattle.tree_choice.proofs.exchange.floors_of_part.Goals.{In-Some}

-- what the list loses
whole : (c : In-Some) → IsExchangeOf c.args.pieces.now c.args.floors.now c.args.part.now c.in-Some.exchange
whole c = subst (λ (o : Option Exchange). IfSome o (IsExchangeOf c.args.pieces.now c.args.floors.now c.args.part.now)) c.in-Some.is c.in_ok-exchange_of.ensures

pub loss_blocks-requires : goal.loss_blocks-requires
loss_blocks-requires c = (whole (goal.at.loss_blocks-requires c).In-Some).each c.args.lines.now c.requires.floors.pieces c.requires.part

pub known_in_all-requires-clause-few : goal.known_in_all-requires-clause-few
known_in_all-requires-clause-few c =
    let few = (whole (goal.at.known_in_all-requires-clause-few c).In-Some).few in
    let same = length_permutation c.in-Some.exchange.losses.items (losses_in c.in_ok-blocks.blocks.items) c.in_ok-blocks.ensures.losses in
    subst (λ (bs : List LossBlock). length (losses_in bs) ≤ 256) (sym c.deref-2.ensures.value) (omega arith)

-- what is so of a value that is there, if what it follows from is
if_ok : {T E : Type 0} {P Q : T → Type 0} (r : Result T E) → ((x : T) → P x → Q x) → IfOk r P → IfOk r Q
if_ok (Ok x) f k = f x k
if_ok (Err e) f k = tt

pub returns : goal.returns
returns c =
    let lines = c.args.lines.now in
    let w = whole (goal.at.returns c).In-Some in
    let x = exchanged_in_order c.args.pieces.now c.args.part.now c.in-Some.exchange.losses.items (losses_in c.in_ok-blocks.blocks.items) c.in_ok-blocks.ensures.losses w.exchanged in
    let y = subst (λ (bs : List LossBlock). IsExchanged c.args.pieces.now c.args.part.now (wholes (losses_in bs)) (rests (losses_in bs))) (sym c.deref-2.ensures.value) x in
    if_ok c.known_in_all.result
    (λ all k. record { pieces = c.requires.part; known = k c.args.pieces.now y (subst (AreFloors lines c.args.pieces.now c.args.part.now) (sym c.deref.ensures.value) (w.known lines c.requires.floors.known)) }) c.known_in_all.ensures
