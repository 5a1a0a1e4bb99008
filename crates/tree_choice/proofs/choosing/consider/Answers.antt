use Rattle.std.proofs.Common.{◌+◌, ◌∙◌, ap, sym, subst, Some, false, arith}
use Rattle.std.proofs.lemmas.Option.{slice_get_within}
use Rattle.tree_choice.specs.SoFar.{SoFar, no_bound}
use Rattle.tree_choice.proofs.Best.{stands_at, taken, line_known, used_stays}
use Rattle.tree_choice.proofs.choosing.consider.Goals as goal

pub take_in-requires : goal.take_in-requires
take_in-requires c = let w = slice_get_within c.args.pieces.now c.args.at c.args.piece.now c.requires.stands in let f = c.requires.few in omega arith

pub returns : goal.returns
returns c =
    let lines = c.args.lines.now in
    let p = c.args.piece.now in
    let ps = c.args.pieces.now in
    let within = line_known lines c.args.used.now p c.requires.piece c.requires.known in
    let free = stands_at c.args.used.now p.line false within ∙ ap Some c.if-used-piece.false in
    subst (SoFar lines ps c.args.used.now no_bound (c.args.at + 1)) (sym c.take_in.ensures)
    (taken lines ps c.args.used.now no_bound c.args.at p c.requires.stands c.limit_of-limit.result c.args.best c.count_below-counted.result c.limit_of-limit.ensures c.requires.so_far free c.count_below-counted.ensures)

pub returns-then-used-piece : goal.returns-then-used-piece
returns-then-used-piece c =
    let lines = c.args.lines.now in
    let used = c.args.used.now in
    let p = c.args.piece.now in
    used_stays lines c.args.pieces.now used no_bound c.args.at p c.requires.stands c.args.best (line_known lines used p c.requires.piece c.requires.known) c.if-used-piece.true c.requires.so_far
