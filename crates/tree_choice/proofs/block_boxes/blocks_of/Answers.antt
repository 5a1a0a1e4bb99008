use Rattle.std.proofs.Common.{◌≤◌, ◌*◌, ◌+◌, ◌-◌, length, List, sym, subst, arith}
use Rattle.std.proofs.lemmas.List.Elements.{All-take, All-drop}
use Rattle.lump_records.specs.declared.records.Bounds.{Bounds}
use Rattle.tree_pieces.specs.Pieces.{IsPiece, first_end, last_end}
use Rattle.tree_choice.proofs.BoxLemmas.{AreFirstBlocks, one_more_block}
use Rattle.tree_choice.proofs.Columns.{part_column}
use Rattle.tree_choice.proofs.block_boxes.blocks_of.Goals as goal

pub box_round-requires : goal.box_round-requires
box_round-requires c =
    let lines = c.args.lines.now in
    let ps = c.args.list.now.pieces.now in
    let from = 16 * c.loop-k.k in
    let n = c.min-end.result - from in
    let e = c.requires.list.ends in
    record {
      each = All-take (IsPiece lines) n _ (All-drop (IsPiece lines) from ps c.requires.list.each);
      ends = record {
        firsts_are = part_column (first_end lines) ps c.args.list.now.firsts.now n from e.firsts_are;
        lasts_are = part_column (last_end lines) ps c.args.list.now.lasts.now n from e.lasts_are;
      };
    }

pub loop-k-preserved : goal.loop-k-preserved
loop-k-preserved c =
    let lines = c.args.lines.now in
    let ps = c.args.list.now.pieces.now in
    let d = c.div_ceil-count.ensures in
    let t = c.loop-k-test.true in
    let within : 16 * c.loop-k.k ≤ length ps = omega arith in
    subst (λ (bs : List Bounds). AreFirstBlocks lines ps bs (c.loop-k.k + 1)) (sym c.in_ok-push.ensures.items)
    (one_more_block lines ps c.loop-k.blocks.items c.loop-k.k c.min-end.result c.box_round.result c.loop-k.invariant within c.min-end.ensures c.box_round.ensures)
