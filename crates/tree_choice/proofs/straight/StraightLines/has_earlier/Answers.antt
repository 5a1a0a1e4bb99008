use Rattle.std.proofs.Common.{get_or, arith}
use Rattle.std.proofs.lemmas.Option.{slice_get_within}
use Rattle.tree_choice.proofs.Best.{earlier_found, line_known, before_within}
use Rattle.tree_choice.proofs.BoxLemmas.{no_piece, piece_before}
use Rattle.tree_choice.proofs.straight.StraightLines.has_earlier.Goals as goal

pub returns-then-lies_along-clause-earlier : goal.returns-then-lies_along-clause-earlier
returns-then-lies_along-clause-earlier c = λ t.
    earlier_found c.args.lines.now c.args.pieces.now c.args.used.now c.args.at c.args.piece.now
    c.index-2.result.now no_piece
    c.requires.pieces c.requires.known c.if-earlier-at.true
    (slice_get_within c.args.pieces.now c.args.at c.args.piece.now c.requires.stands)
    c.if-not-used-first.true (c.lies_along.ensures.yes c.if-lies_along.true)

pub overflow_cast-at : goal.overflow_cast-at
overflow_cast-at c = let w = slice_get_within c.args.pieces.now c.args.at c.args.piece.now c.requires.stands in let f = c.requires.few in omega arith

pub bounds-pieces-earlier : goal.bounds-pieces-earlier
bounds-pieces-earlier c = before_within c.args.pieces.now c.index-2.result.now c.args.at c.args.piece.now c.if-earlier-at.true c.requires.stands

pub bounds-used-first : goal.bounds-used-first
bounds-used-first c =
    let ps = c.args.pieces.now in
    let i = c.index-2.result.now in
    line_known c.args.lines.now c.args.used.now (get_or ps i no_piece)
    (piece_before c.args.lines.now ps i c.args.at c.args.piece.now c.if-earlier-at.true c.requires.stands c.requires.pieces) c.requires.known

pub lies_along-requires-clause-first : goal.lies_along-requires-clause-first
lies_along-requires-clause-first c = piece_before c.args.lines.now c.args.pieces.now c.index-2.result.now c.args.at c.args.piece.now c.if-earlier-at.true c.requires.stands c.requires.pieces

pub returns-then-line-len-clause-earlier : goal.returns-then-line-len-clause-earlier
returns-then-line-len-clause-earlier c = λ e. cc

pub returns-then-number-len-clause-earlier : goal.returns-then-number-len-clause-earlier
returns-then-number-len-clause-earlier c = λ e. cc

pub returns-clause-earlier : goal.returns-clause-earlier
returns-clause-earlier c = λ e. cc
