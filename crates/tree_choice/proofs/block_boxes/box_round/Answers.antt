use Rattle.std.proofs.Common.{◌≡◌, ◌<◌, ◌≤◌, length, get_or, sym, subst, arith, All}
use Rattle.std.proofs.lemmas.List.{take_all}
use Rattle.std.proofs.lemmas.List.Elements.{All-get_or}
use Rattle.lump_records.specs.Drawing.{IsDrawable}
use Rattle.tree_pieces.specs.Pieces.{IsPiece, first_end, last_end}
use Rattle.tree_choice.specs.Blocks.{HoldsPlace}
use Rattle.tree_choice.proofs.BoxLemmas.{no_piece, HoldsEnds, place_wider, within_within, one_more_ends, all_well_in}
use Rattle.tree_choice.proofs.Columns.{column_length, read}
use Rattle.tree_choice.proofs.Corners.{no_vertex}
use Rattle.tree_choice.proofs.DrawnEnds.{first_drawn, last_drawn}
use Rattle.tree_choice.proofs.block_boxes.box_round.Goals as goal
use Rattle.tree_choice.proofs.block_boxes.box_round.Goals.{In-loop-n}

-- there is a piece for each first end
there : (c : In-loop-n) → c.loop-n.n < length c.args.list.now.pieces.now
there c =
    let t = c.loop-n-test.true in
    let l = column_length (first_end c.args.lines.now) c.args.list.now.pieces.now c.args.list.now.firsts.now c.requires.ends.firsts_are in
    omega arith

piece_there : (c : In-loop-n) → IsPiece c.args.lines.now (get_or c.args.list.now.pieces.now c.loop-n.n no_piece)
piece_there c = All-get_or (IsPiece c.args.lines.now) c.args.list.now.pieces.now c.loop-n.n no_piece (there c) c.requires.each

first_is : (c : In-loop-n) → get_or c.args.list.now.firsts.now c.loop-n.n no_vertex ≡ first_end c.args.lines.now (get_or c.args.list.now.pieces.now c.loop-n.n no_piece)
first_is c = read (first_end c.args.lines.now) c.args.list.now.pieces.now c.args.list.now.firsts.now c.loop-n.n no_vertex no_piece (there c) c.requires.ends.firsts_are

last_is : (c : In-loop-n) → get_or c.args.list.now.lasts.now c.loop-n.n no_vertex ≡ last_end c.args.lines.now (get_or c.args.list.now.pieces.now c.loop-n.n no_piece)
last_is c = read (last_end c.args.lines.now) c.args.list.now.pieces.now c.args.list.now.lasts.now c.loop-n.n no_vertex no_piece (there c) c.requires.ends.lasts_are

pub with_place-bounds-requires-clause-place : goal.with_place-bounds-requires-clause-place
with_place-bounds-requires-clause-place c =
    let x = (goal.at.with_place-bounds-requires-clause-place c).In-loop-n in
    subst IsDrawable (sym (first_is x)) (first_drawn c.args.lines.now _ c.are_drawn.ensures (piece_there x))

pub with_place-bounds-requires-in-loop-n-clause-place : goal.with_place-bounds-requires-in-loop-n-clause-place
with_place-bounds-requires-in-loop-n-clause-place c =
    let x = (goal.at.with_place-bounds-requires-in-loop-n-clause-place c).In-loop-n in
    subst IsDrawable (sym (last_is x)) (last_drawn c.args.lines.now _ c.are_drawn.ensures (piece_there x))

pub loop-n-preserved : goal.loop-n-preserved
loop-n-preserved c =
    let x = (goal.at.loop-n-preserved c).In-loop-n in
    let one = c.with_place-bounds in
    let two = c.with_place-bounds-in-loop-n in
    record {
      inner = two.ensures.inner;
      holds = one_more_ends c.args.lines.now c.loop-n.bounds two.result c.args.list.now.pieces.now c.loop-n.n no_piece
          (within_within c.loop-n.bounds one.result two.result one.ensures.wider two.ensures.wider) (there x) c.loop-n.invariant.holds
          (record {
            first = subst (HoldsPlace two.result) (first_is x) (place_wider one.result two.result _ two.ensures.wider one.ensures.holds);
            last = subst (HoldsPlace two.result) (last_is x) two.ensures.holds;
          });
    }

pub returns : goal.returns
returns c =
    let lines = c.args.lines.now in
    let ps = c.args.list.now.pieces.now in
    let l = column_length (first_end lines) ps c.args.list.now.firsts.now c.requires.ends.firsts_are in
    let t = c.loop-n-test.false in
    let over : length ps ≤ c.loop-n.n = omega arith in
    all_well_in lines c.loop-n.bounds c.widened.result c.widened.ensures ps
    (subst (All (HoldsEnds lines c.loop-n.bounds)) (take_all c.loop-n.n ps over) c.loop-n.invariant.holds)
