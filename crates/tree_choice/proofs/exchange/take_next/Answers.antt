use Rattle.std.proofs.Common.{refl, arith}
use Rattle.tree_choice.proofs.Best.{stands_at}
use Rattle.tree_choice.proofs.BoxLemmas.{no_piece}
use Rattle.tree_choice.proofs.Taking.{taken_same, taken_cut, taken_gone}
use Rattle.tree_choice.proofs.exchange.take_next.Goals as goal

pub returns-then-is_same-clause-taken : goal.returns-then-is_same-clause-taken
returns-then-is_same-clause-taken c = λ lines u.
    taken_same lines c.args.pieces.now c.args.floors.now c.args.part.now c.args.n c.args.exchange.now _ no_piece no_piece c.requires.there u
    c.floor_at.result c.len-at.result (omega (arith, c.len-at.ensures, c.args.exchange.now.floors.ok.0)) c.if-at-part.true (c.is_same.ensures c.if-is_same.true) c.in_ok-push.ensures.items refl
    (λ a. c.floor_at.ensures lines c.args.pieces.now c.args.pieces.now _ a (stands_at c.args.pieces.now c.args.n no_piece c.requires.there))

pub returns-then-is_rest-clause-taken : goal.returns-then-is_rest-clause-taken
returns-then-is_rest-clause-taken c = λ lines u.
    let e = c.is_rest.ensures in
    let t = c.if-is_rest.true in
    taken_cut lines c.args.pieces.now c.args.floors.now c.args.part.now c.args.n c.args.exchange.now _ no_piece no_piece c.requires.there u
    c.len-at.result (omega (arith, c.len-at.ensures, c.args.exchange.now.floors.ok.0)) c.if-at-part-2.true c.floor_at-then-is_rest.result c.in_ok-push-3.ensures.items c.in_ok-push-2.ensures.items
    (e.line t) (e.side t) (e.ends t)
    (λ a. c.floor_at-then-is_rest.ensures lines c.args.pieces.now c.args.pieces.now _ a (stands_at c.args.pieces.now c.args.n no_piece c.requires.there))

pub returns-clause-taken : goal.returns-clause-taken
returns-clause-taken c = λ lines u.
    taken_gone lines c.args.pieces.now c.args.floors.now c.args.part.now c.args.n c.args.exchange.now _ no_piece no_piece c.requires.there u
    refl c.in_ok-push-4.ensures.items
