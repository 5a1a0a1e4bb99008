use Rattle.std.proofs.Common.{◌≡◌, ◌<◌, ◌≤◌, ◌⊎◌, inl, inr, length, get_or, sym, subst, arith, All}
use Rattle.std.proofs.lemmas.List.{take_all}
use Rattle.std.proofs.lemmas.List.Elements.{All-get_or}
use Rattle.lump_records.specs.Drawing.{IsDrawable}
use Rattle.lump_records.specs.declared.records.Vertex.{Vertex}
use Rattle.tree_pieces.specs.Pieces.{IsPiece, first_end, last_end}
use Rattle.tree_choice.proofs.BoxLemmas.{no_piece}
use Rattle.tree_choice.proofs.Columns.{column_length, read}
use Rattle.tree_choice.proofs.Corners.{no_vertex}
use Rattle.tree_choice.proofs.DrawnEnds.{first_drawn, last_drawn}
use Rattle.tree_choice.proofs.EndBoxes.{HoldPlaces, one_more_places, places_of, all_held}
use Rattle.tree_choice.proofs.end_boxes.boxes_of_ends.Goals as goal
use Rattle.tree_choice.proofs.end_boxes.boxes_of_ends.Goals.{In-loop-n}

-- there is a piece for each first end
there : (c : In-loop-n) → c.loop-n.n < length c.args.list.now.pieces.now
there c =
    let t = c.loop-n-test.true in
    let l = column_length (first_end c.args.lines.now) c.args.list.now.pieces.now c.args.list.now.firsts.now c.requires.ends.firsts_are in
    omega arith

piece_there : (c : In-loop-n) → IsPiece c.args.lines.now (get_or c.args.list.now.pieces.now c.loop-n.n no_piece)
piece_there c = All-get_or (IsPiece c.args.lines.now) c.args.list.now.pieces.now c.loop-n.n no_piece (there c) c.requires.each

first_is : (c : In-loop-n) → get_or c.args.list.now.firsts.now c.loop-n.n no_vertex ≡ first_end c.args.lines.now (get_or c.args.list.now.pieces.now c.loop-n.n no_piece)
first_is c = read (first_end c.args.lines.now) c.args.list.now.pieces.now c.args.list.now.firsts.now c.loop-n.n no_vertex no_piece (there c) c.requires.ends.firsts_are

last_is : (c : In-loop-n) → get_or c.args.list.now.lasts.now c.loop-n.n no_vertex ≡ last_end c.args.lines.now (get_or c.args.list.now.pieces.now c.loop-n.n no_piece)
last_is c = read (last_end c.args.lines.now) c.args.list.now.pieces.now c.args.list.now.lasts.now c.loop-n.n no_vertex no_piece (there c) c.requires.ends.lasts_are

-- each of two ends in either order is drawn if both are
first_of : (f l x y : Vertex) → ((x ≡ f) × (y ≡ l)) ⊎ ((x ≡ l) × (y ≡ f)) → IsDrawable f → IsDrawable l → IsDrawable x
first_of f l x y (inl e) h k = subst IsDrawable (sym e.0) h
first_of f l x y (inr e) h k = subst IsDrawable (sym e.0) k

last_of : (f l x y : Vertex) → ((x ≡ f) × (y ≡ l)) ⊎ ((x ≡ l) × (y ≡ f)) → IsDrawable f → IsDrawable l → IsDrawable y
last_of f l x y (inl e) h k = subst IsDrawable (sym e.1) k
last_of f l x y (inr e) h k = subst IsDrawable (sym e.1) h

first_ok : (c : In-loop-n) → IsDrawable (get_or c.args.list.now.firsts.now c.loop-n.n no_vertex)
first_ok c = subst IsDrawable (sym (first_is c)) (first_drawn c.args.lines.now _ c.are_drawn.ensures (piece_there c))

last_ok : (c : In-loop-n) → IsDrawable (get_or c.args.list.now.lasts.now c.loop-n.n no_vertex)
last_ok c = subst IsDrawable (sym (last_is c)) (last_drawn c.args.lines.now _ c.are_drawn.ensures (piece_there c))

pub with_place-west-requires-clause-place : goal.with_place-west-requires-clause-place
with_place-west-requires-clause-place c =
    let x = (goal.at.with_place-west-requires-clause-place c).In-loop-n in
    first_of _ _ _ _ c.western_first-ends.ensures (first_ok x) (last_ok x)

pub with_place-east-requires-clause-place : goal.with_place-east-requires-clause-place
with_place-east-requires-clause-place c =
    let x = (goal.at.with_place-east-requires-clause-place c).In-loop-n in
    last_of _ _ _ _ c.western_first-ends.ensures (first_ok x) (last_ok x)

pub loop-n-preserved : goal.loop-n-preserved
loop-n-preserved c =
    let x = (goal.at.loop-n-preserved c).In-loop-n in
    let i = c.loop-n.invariant in
    let w = c.with_place-west in
    let e = c.with_place-east in
    record {
      west = w.ensures.inner;
      east = e.ensures.inner;
      holds = one_more_places c.args.lines.now c.loop-n.west c.loop-n.east w.result e.result c.args.list.now.pieces.now c.loop-n.n no_piece w.ensures.wider e.ensures.wider (there x) i.holds
          (places_of c.args.lines.now w.result e.result (get_or c.args.list.now.pieces.now c.loop-n.n no_piece) _ _ _ _ (first_is x) (last_is x) c.western_first-ends.ensures w.ensures.holds e.ensures.holds);
    }

pub returns : goal.returns
returns c =
    let lines = c.args.lines.now in
    let ps = c.args.list.now.pieces.now in
    let l = column_length (first_end lines) ps c.args.list.now.firsts.now c.requires.ends.firsts_are in
    let t = c.loop-n-test.false in
    let over : length ps ≤ c.loop-n.n = omega arith in
    all_held lines c.loop-n.west c.loop-n.east (record { west = c.widened.result; east = c.widened-2.result }) c.widened.ensures c.widened-2.ensures ps
    (subst (All (HoldPlaces lines c.loop-n.west c.loop-n.east)) (take_all c.loop-n.n ps over) c.loop-n.invariant.holds)
