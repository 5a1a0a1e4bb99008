use Rattle.std.proofs.Common.{◌∙◌, ◌+◌, ◌<◌, ap, length, get_or, Some, false, arith}
use Rattle.std.proofs.lemmas.List.Sorted.{length_permutation, All-permutation}
use Rattle.tree_pieces.specs.Pieces.{IsPiece}
use Rattle.tree_choice.proofs.Best.{stands_at, line_known}
use Rattle.tree_choice.proofs.BoxLemmas.{no_piece}
use Rattle.tree_choice.proofs.Known.{bound_found}
use Rattle.tree_choice.proofs.Reordered.{reordered}
use Rattle.tree_choice.specs.SoFar.{no_bound}
use Rattle.tree_choice.proofs.bound.bound_of.Goals as goal

pub count_by_boxes-requires-clause-list : goal.count_by_boxes-requires-clause-list
count_by_boxes-requires-clause-list c =
    let l = length_permutation c.args.pieces.now c.args.ordered.now.pieces.now c.requires.ordered in
    let f = c.requires.few in
    record {
      each = All-permutation (IsPiece c.args.lines.now) c.args.pieces.now c.args.ordered.now.pieces.now c.requires.ordered c.requires.pieces;
      few = omega arith;
      ends = c.requires.ends;
      blocks = c.requires.blocks;
      corners = c.requires.sides;
      groups = rw c.deref.ensures.value c.requires.groups;
      boxes = c.requires.boxes;
    }

pub returns-else-counts-eq0-clause-bound : goal.returns-else-counts-eq0-clause-bound
returns-else-counts-eq0-clause-bound c =
    let lines = c.args.lines.now in
    let ps = c.args.pieces.now in
    let used = c.args.used.now in
    let at = c.first_counted-at.result in
    let p = get_or ps at no_piece in
    let l = c.if-at-pieces.false in
    let there : at < length ps = omega arith in
    let within = line_known lines used p (c.requires.pieces at no_piece there) c.requires.known in
    let free = stands_at used p.line false within ∙ ap Some c.if-used-pieces.false in
    let counts = c.in-Some.counts in
    let counted = reordered lines p ps c.args.ordered.now.pieces.now c.requires.ordered no_bound (Some counts) c.in-Some.ensures.counts in
    bound_found lines ps used at p counts (c.cost.result + 1) (stands_at ps at no_piece there) free counted c.if-counts-eq0.false (ap (λ k. k + 1) c.cost.ensures)
