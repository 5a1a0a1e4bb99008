use Rattle.std.proofs.Common.{◌≡◌, ◌+◌, ◌*◌, ◌-◌, ◌^◌, ◌<◌, ◌≤◌, sym, subst, length, take, drop, get_or, arith, List, All}
use Rattle.std.proofs.lemmas.List.{length-take, length-drop}
use Rattle.std.proofs.lemmas.List.Elements.{All-take, All-drop}
use Rattle.tree_pieces.specs.declared.piece.Piece.{Piece}
use Rattle.tree_pieces.specs.Pieces.{IsPiece, first_end, last_end}
use Rattle.tree_pieces.proofs.Stops.{Counted, cost_at_least}
use Rattle.tree_choice.specs.Blocks.{HoldEnds}
use Rattle.tree_choice.specs.Counts.{AreCounts}
use Rattle.tree_choice.specs.Sorting.{pieces_in}
use Rattle.tree_choice.proofs.BoxLemmas.{block_is}
use Rattle.tree_choice.proofs.Columns.{part_column, column_length}
use Rattle.tree_choice.proofs.OneMore.{counted_all}
use Rattle.tree_choice.proofs.OpenBlocks.{open_left, all_length, counted_few, begins, open_counted, open_rest, none_open}
use Rattle.tree_choice.proofs.walk.count_open.Goals as goal
use Rattle.tree_choice.proofs.walk.count_open.Goals.{After-count_numbered}

-- an open block begins in the list
pub slice_bounds-block-count : goal.slice_bounds-block-count
slice_bounds-block-count c =
    let b = begins c.args.by.now.lines.now c.args.by.now.piece.now c.args.list.now.pieces.now c.loop-n.n c.args.sorted c.args.noted.now c.requires.is c.loop-n-test.true in
    let e = c.min-end.ensures in
    omega arith

pub slice_bounds-block-start : goal.slice_bounds-block-start
slice_bounds-block-start c =
    let b = begins c.args.by.now.lines.now c.args.by.now.piece.now c.args.list.now.pieces.now c.loop-n.n c.args.sorted c.args.noted.now c.requires.is c.loop-n-test.true in
    let e = c.min-end.ensures in
    omega arith

pub slice_bounds-block-count-in-loop-n : goal.slice_bounds-block-count-in-loop-n
slice_bounds-block-count-in-loop-n c =
    let b = begins c.args.by.now.lines.now c.args.by.now.piece.now c.args.list.now.pieces.now c.loop-n.n c.args.sorted c.args.noted.now c.requires.is c.loop-n-test.true in
    let e = c.min-end.ensures in
    let l = column_length (first_end c.args.by.now.lines.now) c.args.list.now.pieces.now c.args.list.now.firsts.now c.requires.list.ends.firsts_are in
    omega arith

pub slice_bounds-block-start-in-loop-n : goal.slice_bounds-block-start-in-loop-n
slice_bounds-block-start-in-loop-n c =
    let b = begins c.args.by.now.lines.now c.args.by.now.piece.now c.args.list.now.pieces.now c.loop-n.n c.args.sorted c.args.noted.now c.requires.is c.loop-n-test.true in
    let e = c.min-end.ensures in
    let l = column_length (first_end c.args.by.now.lines.now) c.args.list.now.pieces.now c.args.list.now.firsts.now c.requires.list.ends.firsts_are in
    omega arith

pub slice_bounds-block-count-in-loop-n-2 : goal.slice_bounds-block-count-in-loop-n-2
slice_bounds-block-count-in-loop-n-2 c =
    let b = begins c.args.by.now.lines.now c.args.by.now.piece.now c.args.list.now.pieces.now c.loop-n.n c.args.sorted c.args.noted.now c.requires.is c.loop-n-test.true in
    let e = c.min-end.ensures in
    let l = column_length (last_end c.args.by.now.lines.now) c.args.list.now.pieces.now c.args.list.now.lasts.now c.requires.list.ends.lasts_are in
    omega arith

pub slice_bounds-block-start-in-loop-n-2 : goal.slice_bounds-block-start-in-loop-n-2
slice_bounds-block-start-in-loop-n-2 c =
    let b = begins c.args.by.now.lines.now c.args.by.now.piece.now c.args.list.now.pieces.now c.loop-n.n c.args.sorted c.args.noted.now c.requires.is c.loop-n-test.true in
    let e = c.min-end.ensures in
    let l = column_length (last_end c.args.by.now.lines.now) c.args.list.now.pieces.now c.args.list.now.lasts.now c.requires.list.ends.lasts_are in
    omega arith

pub returns-then-limit-least_cost : goal.returns-then-limit-least_cost
returns-then-limit-least_cost c =
    let lines = c.args.by.now.lines.now in
    let p = c.args.by.now.piece.now in
    let ps = c.args.list.now.pieces.now in
    let s = c.args.sorted in
    let noted = c.args.noted.now in
    let k = cost_at_least lines p ps (pieces_in ps (take s.count noted)) s.right s.left 0 (open_left lines p ps s noted c.requires.is) in
    let l = all_length lines p ps s noted c.requires.is in
    let e = c.least_cost.ensures in
    let t = c.if-limit-least_cost.true in
    omega arith

pub loop-n-init : goal.loop-n-init
loop-n-init c =
    let lines = c.args.by.now.lines.now in
    let p = c.args.by.now.piece.now in
    let ps = c.args.list.now.pieces.now in
    let s = c.args.sorted in
    let noted = c.args.noted.now in
    let l = all_length lines p ps s noted c.requires.is in
    record { counted = open_left lines p ps s noted c.requires.is; rest = omega arith; most = omega arith }

pub count_numbered-requires-clause-block : goal.count_numbered-requires-clause-block
count_numbered-requires-clause-block c =
    let lines = c.args.by.now.lines.now in
    let ps = c.args.list.now.pieces.now in
    let from = 16 * get_or c.args.noted.now c.loop-n.n 0 in
    let n = c.min-end.result - from in
    let e = c.requires.list.ends in
    record {
      each = All-take (IsPiece lines) n (drop from ps) (All-drop (IsPiece lines) from ps c.requires.list.each);
      ends = record {
        firsts_are = part_column (first_end lines) ps c.args.list.now.firsts.now n from e.firsts_are;
        lasts_are = part_column (last_end lines) ps c.args.list.now.lasts.now n from e.lasts_are;
      };
    }

pub count_numbered-requires-clause-boxes : goal.count_numbered-requires-clause-boxes
count_numbered-requires-clause-boxes c =
    let lines = c.args.by.now.lines.now in
    let ps = c.args.list.now.pieces.now in
    let k = get_or c.args.noted.now c.loop-n.n 0 in
    let b = begins lines c.args.by.now.piece.now ps c.loop-n.n c.args.sorted c.args.noted.now c.requires.is c.loop-n-test.true in
    λ boxes at. subst (All (HoldEnds lines boxes)) (sym (block_is ps k c.min-end.result (omega arith) c.min-end.ensures)) (c.requires.boxes k boxes at)

-- what is known once the next open block is counted
record Next (c : After-count_numbered) : Type 0 where
  counted : Counted c.args.by.now.lines.now c.args.by.now.piece.now c.args.list.now.pieces.now
      (pieces_in c.args.list.now.pieces.now (drop (c.loop-n.n + 1) (take c.args.sorted.count c.args.noted.now)))
      (c.loop-n.counts.right + c.count_numbered.result.right) (c.loop-n.counts.left + c.count_numbered.result.left)
      (c.loop-n.counts.splits + c.count_numbered.result.splits)
  right : c.loop-n.counts.right + c.count_numbered.result.right < 2 ^ 32
  left : c.loop-n.counts.left + c.count_numbered.result.left < 2 ^ 32
  splits : c.loop-n.counts.splits + c.count_numbered.result.splits < 2 ^ 32
  rest : c.loop-n.rest ≡ (c.min-end.result - 16 * get_or c.args.noted.now c.loop-n.n 0) + length (pieces_in c.args.list.now.pieces.now (drop (c.loop-n.n + 1) (take c.args.sorted.count c.args.noted.now)))
  forward : 16 * get_or c.args.noted.now c.loop-n.n 0 ≤ c.min-end.result

next : (c : After-count_numbered) → Next c
next c =
    let lines = c.args.by.now.lines.now in
    let p = c.args.by.now.piece.now in
    let ps = c.args.list.now.pieces.now in
    let noted = c.args.noted.now in
    let m = c.args.sorted.count in
    let n = c.loop-n.n in
    let k = get_or noted n 0 in
    let i = c.loop-n.invariant in
    let b = begins lines p ps n c.args.sorted noted c.requires.is c.loop-n-test.true in
    let e = c.min-end.ensures in
    let room = c.requires.is.few in
    let same = block_is ps k c.min-end.result (omega arith) e in
    let a = subst (λ (qs : List Piece). AreCounts lines p qs c.count_numbered.result) same c.count_numbered.ensures in
    let counted = open_counted lines p ps m n noted c.loop-n.counts.right c.loop-n.counts.left c.loop-n.counts.splits c.count_numbered.result c.loop-n-test.true room i.counted a in
    let few = counted_few lines p ps _ _ _ _ counted in
    let fr = few.right in
    let fl = few.left in
    let fs = few.splits in
    let all = c.requires.few in
    let o = open_rest lines p ps m n noted c.loop-n-test.true room in
    let lt = length-take 16 (drop (16 * k) ps) in
    let ld = length-drop (16 * k) ps in
    let r = i.rest in
    record { counted = counted; right = omega arith; left = omega arith; splits = omega arith; rest = omega arith; forward = omega arith }

pub plus-counts-requires-clause-right : goal.plus-counts-requires-clause-right
plus-counts-requires-clause-right c = (next (goal.at.plus-counts-requires-clause-right c).After-count_numbered).right

pub plus-counts-requires-clause-left : goal.plus-counts-requires-clause-left
plus-counts-requires-clause-left c = (next (goal.at.plus-counts-requires-clause-left c).After-count_numbered).left

pub plus-counts-requires-clause-splits : goal.plus-counts-requires-clause-splits
plus-counts-requires-clause-splits c = (next (goal.at.plus-counts-requires-clause-splits c).After-count_numbered).splits

pub overflow_sub-rest-in-loop-n : goal.overflow_sub-rest-in-loop-n
overflow_sub-rest-in-loop-n c = (next (goal.at.overflow_sub-rest-in-loop-n c).After-count_numbered).forward

pub overflow_sub-rest-in-loop-n-2 : goal.overflow_sub-rest-in-loop-n-2
overflow_sub-rest-in-loop-n-2 c = let r = (next (goal.at.overflow_sub-rest-in-loop-n-2 c).After-count_numbered).rest in omega arith

pub overflow_cast-rest-in-loop-n : goal.overflow_cast-rest-in-loop-n
overflow_cast-rest-in-loop-n c = let m = c.loop-n.invariant.most in let f = c.requires.few in omega arith

pub returns-then-limit-least_cost-2 : goal.returns-then-limit-least_cost-2
returns-then-limit-least_cost-2 c =
    let x = next (goal.at.returns-then-limit-least_cost-2 c).After-count_numbered in
    let r = x.rest in
    let e = c.plus-counts.ensures in
    let er = e.right in
    let el = e.left in
    let es = e.splits in
    let k = cost_at_least c.args.by.now.lines.now c.args.by.now.piece.now c.args.list.now.pieces.now _ _ _ _ x.counted in
    omega arith

pub loop-n-preserved : goal.loop-n-preserved
loop-n-preserved c =
    let x = next (goal.at.loop-n-preserved c).After-count_numbered in
    let r = x.rest in
    let k = x.counted in
    let kr = k.right in
    let kl = k.left in
    let ks = k.splits in
    let e = c.plus-counts.ensures in
    let er = e.right in
    let el = e.left in
    let es = e.splits in
    let m = c.loop-n.invariant.most in
    record { counted = record { right = omega arith; left = omega arith; splits = omega arith }; rest = omega arith; most = omega arith }

pub returns : goal.returns
returns c =
    let f = c.loop-n-test.false in
    let a = counted_all c.args.by.now.lines.now c.args.by.now.piece.now c.args.list.now.pieces.now _ _ _ _
    (none_open c.args.by.now.lines.now c.args.by.now.piece.now c.args.list.now.pieces.now c.args.sorted.count c.loop-n.n c.args.noted.now (omega arith)) c.loop-n.invariant.counted in
    record { splits = a.0; right = a.1; left = a.2 }
