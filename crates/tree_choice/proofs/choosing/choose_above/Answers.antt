use Rattle.std.proofs.Common.{arith}
use Rattle.std.proofs.lemmas.List.Sorted.{length_permutation, All-permutation}
use Rattle.tree_pieces.specs.Pieces.{IsPiece}
use Rattle.tree_choice.proofs.Best.{stands_at, finished}
use Rattle.tree_choice.proofs.BoxLemmas.{no_piece}
use Rattle.tree_choice.proofs.choosing.choose_above.Goals as goal

pub note-requires-2-clause-list : goal.note-requires-2-clause-list
note-requires-2-clause-list c = record {
  each = All-permutation (IsPiece c.args.lines.now) c.args.pieces.now c.args.ordered.now.pieces.now c.requires.ordered c.requires.floors.pieces;
  ends = c.requires.ends;
}

pub note-requires-2-clause-few : goal.note-requires-2-clause-few
note-requires-2-clause-few c =
    let l = length_permutation c.args.pieces.now c.args.ordered.now.pieces.now c.requires.ordered in
    let f = c.requires.few in
    omega arith

pub consider_ordered-best-requires-clause-stands : goal.consider_ordered-best-requires-clause-stands
consider_ordered-best-requires-clause-stands c = stands_at c.args.pieces.now c.loop-at.at no_piece c.loop-at-test.true

pub returns-clause-choice : goal.returns-clause-choice
returns-clause-choice c = finished c.args.lines.now c.args.pieces.now c.args.used.now c.bound_of-bound.result c.loop-at.at c.loop-at.best c.requires.few c.bound_of-bound.ensures.bound c.loop-at-test.false c.loop-at.invariant.so_far
