use Rattle.std.proofs.Common.{◌≡◌, ◌∙◌, ◌+◌, ◌≤◌, sym, ap, subst, length, length-append, take, List, ◌++◌, arith}
use Rattle.std.proofs.lemmas.List.{take_all}
use Rattle.tree_pieces.specs.declared.piece.Piece.{Piece}
use Rattle.tree_choice.specs.declared.losses.Change.{Change}
use Rattle.tree_choice.specs.declared.losses.Loss.{Loss}
use Rattle.tree_choice.specs.declared.losses.LossBlock.{LossBlock}
use Rattle.tree_choice.specs.Losses.{IsChange, wholes, rests, losses_in}
use Rattle.tree_choice.proofs.LossLemmas.{both_change, wholes_append, rests_append, losses_more, losses_within}
use Rattle.tree_choice.proofs.losses.change_by.Goals as goal
use Rattle.tree_choice.proofs.losses.change_by.Goals.{After-change_in-more}

-- there are few losses so far, and with those of this block
record Few (c : After-change_in-more) : Type 0 where
  more : length (losses_in (take (c.loop-block.block-index + 1) c.args.blocks.now))
      ≡ length (losses_in (take c.loop-block.block-index c.args.blocks.now)) + length c.block-item.result.losses.items
  most : length (losses_in (take (c.loop-block.block-index + 1) c.args.blocks.now)) ≤ 256

few : (c : After-change_in-more) → Few c
few c =
    let bs = c.args.blocks.now in
    let n = c.loop-block.block-index in
    let m = losses_within bs (n + 1) in
    let f = c.requires.few in
    record {
      more = ap length (losses_more bs n c.block-item.result c.loop-block-test.true c.block-item.is) ∙ length-append (losses_in (take n bs)) c.block-item.result.losses.items;
      most = omega arith;
    }

pub plus-requires-clause-right : goal.plus-requires-clause-right
plus-requires-clause-right c =
    let f = few (goal.at.plus-requires-clause-right c).After-change_in-more in
    omega (arith, f.more, f.most, c.loop-block.invariant.lost.right, c.change_in-more.ensures.lost.right)

pub plus-requires-clause-left : goal.plus-requires-clause-left
plus-requires-clause-left c =
    let f = few (goal.at.plus-requires-clause-left c).After-change_in-more in
    omega (arith, f.more, f.most, c.loop-block.invariant.lost.left, c.change_in-more.ensures.lost.left)

pub plus-requires-clause-splits : goal.plus-requires-clause-splits
plus-requires-clause-splits c =
    let f = few (goal.at.plus-requires-clause-splits c).After-change_in-more in
    omega (arith, f.more, f.most, c.loop-block.invariant.lost.splits, c.change_in-more.ensures.lost.splits)

pub plus-requires-in-loop-block-clause-right : goal.plus-requires-in-loop-block-clause-right
plus-requires-in-loop-block-clause-right c =
    let f = few (goal.at.plus-requires-in-loop-block-clause-right c).After-change_in-more in
    omega (arith, f.more, f.most, c.loop-block.invariant.gained.right, c.change_in-more.ensures.gained.right)

pub plus-requires-in-loop-block-clause-left : goal.plus-requires-in-loop-block-clause-left
plus-requires-in-loop-block-clause-left c =
    let f = few (goal.at.plus-requires-in-loop-block-clause-left c).After-change_in-more in
    omega (arith, f.more, f.most, c.loop-block.invariant.gained.left, c.change_in-more.ensures.gained.left)

pub plus-requires-in-loop-block-clause-splits : goal.plus-requires-in-loop-block-clause-splits
plus-requires-in-loop-block-clause-splits c =
    let f = few (goal.at.plus-requires-in-loop-block-clause-splits c).After-change_in-more in
    omega (arith, f.more, f.most, c.loop-block.invariant.gained.splits, c.change_in-more.ensures.gained.splits)

pub loop-block-preserved : goal.loop-block-preserved
loop-block-preserved c =
    let lines = c.args.by.now.lines.now in
    let p = c.args.by.now.piece.now in
    let bs = c.args.blocks.now in
    let n = c.loop-block.block-index in
    let before = losses_in (take n bs) in
    let here = c.block-item.result.losses.items in
    let i = c.loop-block.invariant in
    let m = c.change_in-more.ensures in
    let a = c.plus.ensures in
    let b = c.plus-in-loop-block.ensures in
    let e = losses_more bs n c.block-item.result c.loop-block-test.true c.block-item.is in
    let f = few (goal.at.loop-block-preserved c).After-change_in-more in
    let after : Change = record { lost = c.plus.result; gained = c.plus-in-loop-block.result } in
    record {
      change = subst (λ (ls : List Loss). IsChange lines p (wholes ls) (rests ls) after) (sym e)
          (subst (λ (ps : List Piece). IsChange lines p ps (rests (before ++ here)) after) (sym (wholes_append before here))
          (subst (λ (ps : List Piece). IsChange lines p (wholes before ++ wholes here) ps after) (sym (rests_append before here))
          (both_change lines p (wholes before) (rests before) (wholes here) (rests here) c.loop-block.change c.change_in-more.result after i.change m.change
          a.splits a.right a.left b.splits b.right b.left)));
      lost = record {
        splits = omega (arith, f.more, a.splits, i.lost.splits, m.lost.splits);
        right = omega (arith, f.more, a.right, i.lost.right, m.lost.right);
        left = omega (arith, f.more, a.left, i.lost.left, m.lost.left);
      };
      gained = record {
        splits = omega (arith, f.more, b.splits, i.gained.splits, m.gained.splits);
        right = omega (arith, f.more, b.right, i.gained.right, m.gained.right);
        left = omega (arith, f.more, b.left, i.gained.left, m.gained.left);
      };
    }

pub returns : goal.returns
returns c =
    let lines = c.args.by.now.lines.now in
    let p = c.args.by.now.piece.now in
    let t = c.loop-block-test.false in
    subst (λ (bs : List LossBlock). IsChange lines p (wholes (losses_in bs)) (rests (losses_in bs)) c.loop-block.change)
    (take_all c.loop-block.block-index c.args.blocks.now (omega arith)) c.loop-block.invariant.change
