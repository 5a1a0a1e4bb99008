use Rattle.std.proofs.Common.{rules, ◌+◌, ◌&&◌, sym, subst, set, get_or, arith}
use Rattle.std.proofs.lemmas.List.{get_or-replicate}
use Rattle.std.specs.Prelude.{nat_eq, FitsSigned}
use Rattle.std.specs.Int.{w16}
use Rattle.tree_choice.proofs.Corners.{no_vertex, place_by_16}
use Rattle.tree_pieces.proofs.Stops.{Counted}
use Rattle.tree_pieces.specs.Pieces.{first_end, last_end}
use Rattle.tree_choice.proofs.BoxLemmas.{no_piece}
use Rattle.tree_choice.specs.Sights.{IsNormal}
use Rattle.tree_choice.proofs.Columns.{column_length, read}
use Rattle.tree_choice.proofs.EndLemmas.{ends_by}
use Rattle.tree_choice.proofs.OpenBlocks.{counted_few}
use Rattle.tree_choice.proofs.ClearLemmas.{uncounted, clear_step, clear_all, flags_step, all_flags}
use Rattle.tree_pieces.specs.Pieces.{ends_of}
use Rattle.tree_choice.proofs.walk.count_clear_ones.Goals as goal
use Rattle.tree_choice.proofs.walk.count_clear_ones.Goals.{After-count_clear-more}

pub bounds-firsts-n : goal.bounds-firsts-n
bounds-firsts-n c = let l = column_length (first_end c.args.by.now.lines.now) c.args.list.now.pieces.now c.args.list.now.firsts.now c.requires.list.ends.firsts_are in omega arith

pub bounds-lasts-n : goal.bounds-lasts-n
bounds-lasts-n c = let l = column_length (last_end c.args.by.now.lines.now) c.args.list.now.pieces.now c.args.list.now.lasts.now c.requires.list.ends.lasts_are in omega arith

pub bounds-firsts-n-in-loop-n : goal.bounds-firsts-n-in-loop-n
bounds-firsts-n-in-loop-n c = let l = column_length (first_end c.args.by.now.lines.now) c.args.list.now.pieces.now c.args.list.now.firsts.now c.requires.list.ends.firsts_are in omega arith

pub bounds-lasts-n-in-loop-n : goal.bounds-lasts-n-in-loop-n
bounds-lasts-n-in-loop-n c = let l = column_length (last_end c.args.by.now.lines.now) c.args.list.now.pieces.now c.args.list.now.lasts.now c.requires.list.ends.lasts_are in omega arith

pub count_clear-more-requires-clause-normal : goal.count_clear-more-requires-clause-normal
count_clear-more-requires-clause-normal c =
    let r = c.args.by.now.margins.ray in
    let t = c.loop-n-test.true in
    let few = c.requires.few in
    subst (IsNormal r) (sym (get_or-replicate 16 c.loop-n.n c.args.by.now.margins.normal _ (omega arith))) c.requires.candidate.margins.normal

pub count_clear-more-requires-clause-ends : goal.count_clear-more-requires-clause-ends
count_clear-more-requires-clause-ends c =
    let lines = c.args.by.now.lines.now in
    let ps = c.args.list.now.pieces.now in
    let n = c.loop-n.n in
    let h = c.loop-n-test.true in
    let e = c.requires.list.ends in
    let ka : FitsSigned w16 (get_or c.args.list.now.firsts.now n no_vertex).x = search rules in
    let kb : FitsSigned w16 (get_or c.args.list.now.firsts.now n no_vertex).y = search rules in
    let ku : FitsSigned w16 (get_or c.args.list.now.lasts.now n no_vertex).x = search rules in
    let kv : FitsSigned w16 (get_or c.args.list.now.lasts.now n no_vertex).y = search rules in
    ends_by _ _ (ends_of lines (get_or ps n no_piece))
    (place_by_16 _ (first_end lines (get_or ps n no_piece)) ka kb (read (first_end lines) ps c.args.list.now.firsts.now n no_vertex no_piece h e.firsts_are))
    (place_by_16 _ (last_end lines (get_or ps n no_piece)) ku kv (read (last_end lines) ps c.args.list.now.lasts.now n no_vertex no_piece h e.lasts_are))

-- one more piece is counted or flagged
step : (c : After-count_clear-more) → Counted c.args.by.now.lines.now c.args.by.now.piece.now c.args.list.now.pieces.now
    (uncounted (set c.loop-n.flags c.loop-n.n (nat_eq c.count_clear-more.result.right 0 && nat_eq c.count_clear-more.result.left 0)) c.args.list.now.pieces.now (c.loop-n.n + 1))
    (c.loop-n.counts.right + c.count_clear-more.result.right) (c.loop-n.counts.left + c.count_clear-more.result.left) (c.loop-n.counts.splits + c.count_clear-more.result.splits)
step c =
    let r = c.requires.room in
    let a = c.loop-n.auto.flags in
    clear_step c.args.by.now.lines.now c.args.by.now.piece.now c.args.list.now.pieces.now c.loop-n.flags c.loop-n.n no_piece c.loop-n.counts.right c.loop-n.counts.left c.loop-n.counts.splits c.count_clear-more.result
    c.loop-n-test.true (omega arith) c.loop-n.invariant.counted c.count_clear-more.ensures

pub plus-counts-requires-clause-right : goal.plus-counts-requires-clause-right
plus-counts-requires-clause-right c =
    let f = (counted_few c.args.by.now.lines.now c.args.by.now.piece.now c.args.list.now.pieces.now _ _ _ _ (step (goal.at.plus-counts-requires-clause-right c).After-count_clear-more)).right in
    let all = c.requires.few in
    omega arith

pub plus-counts-requires-clause-left : goal.plus-counts-requires-clause-left
plus-counts-requires-clause-left c =
    let f = (counted_few c.args.by.now.lines.now c.args.by.now.piece.now c.args.list.now.pieces.now _ _ _ _ (step (goal.at.plus-counts-requires-clause-left c).After-count_clear-more)).left in
    let all = c.requires.few in
    omega arith

pub plus-counts-requires-clause-splits : goal.plus-counts-requires-clause-splits
plus-counts-requires-clause-splits c =
    let f = (counted_few c.args.by.now.lines.now c.args.by.now.piece.now c.args.list.now.pieces.now _ _ _ _ (step (goal.at.plus-counts-requires-clause-splits c).After-count_clear-more)).splits in
    let all = c.requires.few in
    omega arith

pub loop-n-preserved : goal.loop-n-preserved
loop-n-preserved c =
    let s = step (goal.at.loop-n-preserved c).After-count_clear-more in
    let e = c.plus-counts.ensures in
    let er = e.right in
    let el = e.left in
    let es = e.splits in
    let kr = s.right in
    let kl = s.left in
    let ks = s.splits in
    let r = c.requires.room in
    let a = c.loop-n.auto.flags in
    let f = flags_step c.args.by.now.lines.now c.args.by.now.piece.now c.args.list.now.pieces.now c.loop-n.flags c.loop-n.n no_piece c.loop-n.counts.right c.loop-n.counts.left c.loop-n.counts.splits c.count_clear-more.result
    c.loop-n-test.true (omega arith) c.loop-n.invariant.flags c.count_clear-more.ensures in
    record { counted = record { right = omega arith; left = omega arith; splits = omega arith }; flags = omega arith }

pub returns : goal.returns
returns c =
    let r = c.requires.room in
    let a = c.loop-n.auto.flags in
    let k = clear_all c.args.by.now.lines.now c.args.by.now.piece.now c.args.list.now.pieces.now c.loop-n.flags c.loop-n.n c.loop-n.counts.right c.loop-n.counts.left c.loop-n.counts.splits
    c.loop-n-test.false (omega arith) c.loop-n.invariant.counted in
    let f = c.loop-n-test.false in
    let n = c.loop-n.auto.n-end in
    let e = all_flags c.loop-n.flags c.args.list.now.pieces.now c.loop-n.n f (omega arith) in
    let i = c.loop-n.invariant.flags in
    record { splits = k.splits; right = k.right; left = k.left; others = omega arith }
