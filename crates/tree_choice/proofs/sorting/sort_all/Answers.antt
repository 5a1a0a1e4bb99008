use Rattle.std.proofs.Common.{◌+◌, ◌*◌, ◌/◌, min, refl, sym, ap, subst, take, drop, get_or, length, arith, List, All}
use Rattle.tree_pieces.specs.declared.piece.Piece.{Piece}
use Rattle.tree_pieces.specs.Boxes.{HoldsPiece}
use Rattle.tree_choice.specs.Blocks.{HoldAllEnds}
use Rattle.tree_choice.specs.Sorting.{IsSorted}
use Rattle.tree_choice.proofs.Best.{stands_at}
use Rattle.tree_choice.proofs.BoxLemmas.{no_box}
use Rattle.tree_choice.proofs.OpenBlocks.{same_sorted}
use Rattle.tree_choice.proofs.sorting.sort_all.Goals as goal

pub sort_group-sorted-requires-clause-holds : goal.sort_group-sorted-requires-clause-holds
sort_group-sorted-requires-clause-holds c =
    let lines = c.args.by.now.lines.now in
    let groups = c.args.list.now.groups.now in
    let g = c.loop-g.g in
    subst (λ (ps : List Piece). All (HoldsPiece lines (get_or groups g no_box)) (take 256 (drop (256 * g) ps))) (sym c.blocks_for-blocks.ensures.pieces)
    (c.requires.list.groups.holds g (get_or groups g no_box) (stands_at groups g no_box c.loop-g-test.true))

pub sort_group-sorted-requires-clause-ends : goal.sort_group-sorted-requires-clause-ends
sort_group-sorted-requires-clause-ends c =
    let lines = c.args.by.now.lines.now in
    subst (λ (ps : List Piece). HoldAllEnds 256 lines ps c.args.ends.now) (sym c.blocks_for-blocks.ensures.pieces) c.requires.ends

pub sort_blocks-sorted-requires-clause-before : goal.sort_blocks-sorted-requires-clause-before
sort_blocks-sorted-requires-clause-before c =
    let s = c.loop-g-2.sorted in
    let t = c.loop-g-2-test.true in
    let d = c.div_ceil-g-end.ensures in
    same_sorted c.args.by.now.lines.now c.args.by.now.piece.now c.blocks_for-blocks.result.pieces.now (16 * min (16 * c.loop-g-2.g) (length c.blocks_for-blocks.result.pieces.now / 16)) (16 * (16 * c.loop-g-2.g))
    s.right s.right s.left s.left s.count s.count c.loop-g-2.noted c.loop-g-2.noted c.loop-g-2.invariant (omega arith) refl refl refl refl

pub loop-g-2-init : goal.loop-g-2-init
loop-g-2-init c =
    let ps = c.blocks_for-blocks.result.pieces.now in
    let s = c.loop-g.sorted in
    let f = c.loop-g-test.false in
    let e = c.loop-g.auto.g-end in
    let w = c.requires.list.groups.within in
    let listed = ap length c.blocks_for-blocks.ensures.pieces in
    same_sorted c.args.by.now.lines.now c.args.by.now.piece.now ps (256 * c.loop-g.g) (16 * min (16 * length c.args.list.now.groups.now) (length ps / 16))
    s.right s.right s.left s.left s.count s.count c.loop-g.noted c.loop-g.noted c.loop-g.invariant (omega arith) refl refl refl refl

pub loop-g-2-preserved : goal.loop-g-2-preserved
loop-g-2-preserved c =
    let ps = c.blocks_for-blocks.result.pieces.now in
    let s = c.sort_blocks-sorted.result in
    let e = c.min-to.ensures in
    same_sorted c.args.by.now.lines.now c.args.by.now.piece.now ps (16 * c.min-to.result) (16 * min (16 * (c.loop-g-2.g + 1)) (length ps / 16))
    s.right s.right s.left s.left s.count s.count c.sort_blocks-sorted.new.noted c.sort_blocks-sorted.new.noted c.sort_blocks-sorted.ensures.is (omega arith) refl refl refl refl

pub sort_last-requires-clause-before : goal.sort_last-requires-clause-before
sort_last-requires-clause-before c =
    let ps = c.blocks_for-blocks.result.pieces.now in
    let s = c.loop-g-2.sorted in
    let f = c.loop-g-2-test.false in
    let d = c.div_ceil-g-end.ensures in
    same_sorted c.args.by.now.lines.now c.args.by.now.piece.now ps (16 * min (16 * c.loop-g-2.g) (length ps / 16)) (16 * (length ps / 16))
    s.right s.right s.left s.left s.count s.count c.loop-g-2.noted c.loop-g-2.noted c.loop-g-2.invariant (omega arith) refl refl refl refl

pub returns-clause-is : goal.returns-clause-is
returns-clause-is c =
    subst (λ (ps : List Piece). IsSorted c.args.by.now.lines.now c.args.by.now.piece.now ps (length ps) c.sort_last.result c.sort_last.new.noted) c.blocks_for-blocks.ensures.pieces c.sort_last.ensures.is
