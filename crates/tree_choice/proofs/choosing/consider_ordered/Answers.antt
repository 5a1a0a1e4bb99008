use Rattle.std.proofs.Common.{◌≤◌, ◌+◌, ◌∙◌, ap, sym, subst, ℕ, Some, false, arith}
use Rattle.std.proofs.lemmas.Option.{slice_get_within}
use Rattle.std.proofs.lemmas.List.Sorted.{length_permutation, All-permutation}
use Rattle.tree_pieces.specs.Pieces.{IsPiece}
use Rattle.tree_pieces.specs.Tree.{cost}
use Rattle.tree_choice.specs.SoFar.{SoFar}
use Rattle.tree_choice.proofs.Best.{stands_at, skips, stays, taken, line_known, used_stays}
use Rattle.tree_choice.proofs.Known.{nearer}
use Rattle.tree_choice.proofs.Parity.{odd_costs}
use Rattle.tree_choice.proofs.Reordered.{reordered}
use Rattle.tree_choice.proofs.choosing.consider_ordered.Goals as goal

pub take_in-requires : goal.take_in-requires
take_in-requires c = let w = slice_get_within c.args.pieces.now c.args.at c.args.piece.now c.requires.stands in let f = c.requires.few in omega arith

pub count_by_boxes-counted-requires-clause-list : goal.count_by_boxes-counted-requires-clause-list
count_by_boxes-counted-requires-clause-list c =
    let l = length_permutation c.args.pieces.now c.args.ordered.now.pieces.now c.requires.ordered in
    let f = c.requires.few in
    record {
      each = All-permutation (IsPiece c.args.lines.now) c.args.pieces.now c.args.ordered.now.pieces.now c.requires.ordered c.requires.floors.pieces;
      few = omega arith;
      ends = c.requires.ends;
      blocks = c.requires.blocks;
      corners = rw c.has_earlier.ensures.sides c.requires.sides;
      groups = rw (c.deref.ensures.value, c.has_earlier.ensures.groups) c.requires.groups;
      boxes = rw c.has_earlier.ensures.boxes c.requires.boxes;
    }

pub returns-then-has_earlier-clause-so_far : goal.returns-then-has_earlier-clause-so_far
returns-then-has_earlier-clause-so_far c =
    skips c.args.lines.now c.args.pieces.now c.args.used.now c.args.bound c.args.at c.args.piece.now c.requires.stands c.are_drawn.ensures c.requires.floors.pieces c.args.best c.requires.so_far (c.has_earlier.ensures.earlier c.if-has_earlier.true)

pub returns-then-reaches-clause-so_far : goal.returns-then-reaches-clause-so_far
returns-then-reaches-clause-so_far c =
    let lines = c.args.lines.now in
    let p = c.args.piece.now in
    let ps = c.args.pieces.now in
    let known = c.floor_at-known.ensures lines ps ps p c.requires.floors.known c.requires.stands in
    stays lines ps c.args.used.now c.args.bound c.args.at p c.requires.stands c.args.best c.requires.so_far
    (λ can. subst (λ (limit : ℕ). limit ≤ cost lines p ps) c.limit_of-limit.ensures (c.reaches.ensures lines ps p known c.if-reaches.true can.1))

pub returns-clause-so_far : goal.returns-clause-so_far
returns-clause-so_far c =
    let lines = c.args.lines.now in
    let p = c.args.piece.now in
    let ps = c.args.pieces.now in
    let used = c.args.used.now in
    let within = line_known lines used p c.requires.piece c.requires.known in
    let free = stands_at used p.line false within ∙ ap Some c.if-used-piece.false in
    let o = c.count_by_boxes-counted.result in
    let e = reordered lines p ps c.args.ordered.now.pieces.now c.requires.ordered c.far_limit-far.result o c.count_by_boxes-counted.ensures.counts in
    let m = nearer lines p ps c.limit_of-limit.result c.far_limit-far.result o c.far_limit-far.ensures e in
    subst (SoFar lines ps used c.args.bound (c.args.at + 1)) (sym c.take_in.ensures)
    (taken lines ps used c.args.bound c.args.at p c.requires.stands c.limit_of-limit.result c.args.best o c.limit_of-limit.ensures c.requires.so_far free m)

pub returns-clause-floors : goal.returns-clause-floors
returns-clause-floors c =
    let lines = c.args.lines.now in
    let p = c.args.piece.now in
    let ps = c.args.pieces.now in
    let o = c.count_by_boxes-counted.result in
    record {
      pieces = c.requires.floors.pieces;
      known = c.note_floor.ensures lines ps ps p c.requires.floors.known c.requires.stands
          (reordered lines p ps c.args.ordered.now.pieces.now c.requires.ordered c.far_limit-far.result o c.count_by_boxes-counted.ensures.counts);
    }

pub returns-then-used-piece-clause-so_far : goal.returns-then-used-piece-clause-so_far
returns-then-used-piece-clause-so_far c =
    let lines = c.args.lines.now in
    let used = c.args.used.now in
    let p = c.args.piece.now in
    used_stays lines c.args.pieces.now used c.args.bound c.args.at p c.requires.stands c.args.best (line_known lines used p c.requires.piece c.requires.known) c.if-used-piece.true c.requires.so_far

pub returns-then-limit-pieces-clause-so_far : goal.returns-then-limit-pieces-clause-so_far
returns-then-limit-pieces-clause-so_far c =
    let lines = c.args.lines.now in
    let p = c.args.piece.now in
    let ps = c.args.pieces.now in
    let odd = odd_costs lines p ps c.requires.floors.pieces in
    let t = c.if-limit-pieces.true in
    stays lines ps c.args.used.now c.args.bound c.args.at p c.requires.stands c.args.best c.requires.so_far
    (λ can. subst (λ (limit : ℕ). limit ≤ cost lines p ps) c.limit_of-limit.ensures (omega arith))
