use Rattle.std.proofs.Common.{◌+◌, drop, arith}
use Rattle.tree_pieces.proofs.Stops.{Counted}
use Rattle.tree_choice.specs.Clear.{pieces_at}
use Rattle.tree_choice.proofs.BoxLemmas.{no_piece}
use Rattle.tree_choice.proofs.OpenBlocks.{counted_few}
use Rattle.tree_choice.proofs.ClearLemmas.{place_counted, places_counted}
use Rattle.tree_choice.proofs.walk.count_open_ones.Goals as goal
use Rattle.tree_choice.proofs.walk.count_open_ones.Goals.{After-count_piece-more}

-- one more piece is counted
next : (c : After-count_piece-more) → Counted c.args.by.now.lines.now c.args.by.now.piece.now c.args.pieces.now
    (pieces_at c.args.pieces.now (drop (c.loop-place.place-index + 1) c.args.places.now))
    (c.loop-place.counts.right + c.count_piece-more.result.right) (c.loop-place.counts.left + c.count_piece-more.result.left)
    (c.loop-place.counts.splits + c.count_piece-more.result.splits)
next c =
    place_counted c.args.by.now.lines.now c.args.by.now.piece.now c.args.pieces.now c.args.places.now c.loop-place.place-index no_piece
    c.loop-place.counts.right c.loop-place.counts.left c.loop-place.counts.splits c.count_piece-more.result
    c.loop-place-test.true c.requires.each c.loop-place.invariant c.count_piece-more.ensures

pub plus-counts-requires-clause-right : goal.plus-counts-requires-clause-right
plus-counts-requires-clause-right c =
    let f = (counted_few c.args.by.now.lines.now c.args.by.now.piece.now c.args.pieces.now _ _ _ _ (next (goal.at.plus-counts-requires-clause-right c).After-count_piece-more)).right in
    let all = c.requires.few in
    omega arith

pub plus-counts-requires-clause-left : goal.plus-counts-requires-clause-left
plus-counts-requires-clause-left c =
    let f = (counted_few c.args.by.now.lines.now c.args.by.now.piece.now c.args.pieces.now _ _ _ _ (next (goal.at.plus-counts-requires-clause-left c).After-count_piece-more)).left in
    let all = c.requires.few in
    omega arith

pub plus-counts-requires-clause-splits : goal.plus-counts-requires-clause-splits
plus-counts-requires-clause-splits c =
    let f = (counted_few c.args.by.now.lines.now c.args.by.now.piece.now c.args.pieces.now _ _ _ _ (next (goal.at.plus-counts-requires-clause-splits c).After-count_piece-more)).splits in
    let all = c.requires.few in
    omega arith

pub loop-place-preserved : goal.loop-place-preserved
loop-place-preserved c =
    let k = next (goal.at.loop-place-preserved c).After-count_piece-more in
    let e = c.plus-counts.ensures in
    let er = e.right in
    let el = e.left in
    let es = e.splits in
    let kr = k.right in
    let kl = k.left in
    let ks = k.splits in
    record { right = omega arith; left = omega arith; splits = omega arith }

pub returns : goal.returns
returns c = places_counted c.args.by.now.lines.now c.args.by.now.piece.now c.args.pieces.now c.args.places.now c.loop-place.place-index c.loop-place.counts c.loop-place-test.false c.loop-place.invariant
