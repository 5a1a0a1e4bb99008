use Rattle.std.proofs.Common.{◌≡◌, refl, ◌-◌, ◌*◌, ◌<◌, length, take, drop, get_or, subst, arith, All}
use Rattle.std.proofs.lemmas.List.{length-take, length-drop}
use Rattle.std.proofs.lemmas.List.Elements.{All-take, All-drop}
use Rattle.std.specs.Prelude.{pos, ◌<ℤ◌}
use Rattle.lump_records.specs.declared.plane.Ray.{Ray}
use Rattle.tree_pieces.specs.Pieces.{IsPiece}
use Rattle.tree_pieces.specs.Boxes.{least_value, greatest_value}
use Rattle.tree_pieces.proofs.BlockCounts.{block_right, block_left}
use Rattle.tree_choice.specs.Sorting.{block_at}
use Rattle.tree_choice.proofs.Best.{stands_at}
use Rattle.tree_choice.proofs.BoxLemmas.{no_box}
use Rattle.tree_choice.proofs.OpenBlocks.{counts_are}
use Rattle.tree_choice.proofs.sorting.sort_last.Goals as goal
use Rattle.tree_choice.proofs.sorting.sort_last.Goals.{After-sides_of_box-sides}

-- the block begins, and has the rest of the pieces
record Rest (c : After-sides_of_box-sides) : Type 0 where
  block : c.args.whole < length c.args.blocks.now.boxes.now
  size : length (take 16 (drop (16 * c.args.whole) c.args.blocks.now.pieces.now)) ≡ length c.args.blocks.now.pieces.now - 16 * c.args.whole

rest : (c : After-sides_of_box-sides) → Rest c
rest c =
    let ps = c.args.blocks.now.pieces.now in
    let k = c.args.whole in
    let t = c.if-size-eq0.false in
    let w = c.requires.whole in
    let last = c.requires.last in
    let n = c.requires.blocks.boxes.enough in
    let lt = length-take 16 (drop (16 * k) ps) in
    let ld = length-drop (16 * k) ps in
    record { block = omega arith; size = omega arith }

pub add_block-requires-clause-size : goal.add_block-requires-clause-size
add_block-requires-clause-size c = let s = (rest (goal.at.add_block-requires-clause-size c).After-sides_of_box-sides).size in omega arith

pub add_block-requires-clause-sides : goal.add_block-requires-clause-sides
add_block-requires-clause-sides c =
    let lines = c.args.by.now.lines.now in
    let p = c.args.by.now.piece.now in
    let ps = c.args.blocks.now.pieces.now in
    let boxes = c.args.blocks.now.boxes.now in
    let k = c.args.whole in
    let b = get_or boxes k no_box in
    let w = rest (goal.at.add_block-requires-clause-sides c).After-sides_of_box-sides in
    let block = block_at ps k in
    let ok : All (IsPiece lines) block = All-take (IsPiece lines) 16 (drop (16 * k) ps) (All-drop (IsPiece lines) (16 * k) ps c.requires.blocks.each) in
    let holds = c.requires.blocks.boxes.holds k b (stands_at boxes k no_box w.block) in
    record {
      right = λ h.
          let least = subst (λ (x : Ray). pos 0 <ℤ least_value x b) c.requires.candidate.ray (c.sides_of_box-sides.ensures.right h) in
          counts_are lines p block (length block) (length block) 0 0 (block_right lines p block b ok holds least) refl refl;
      left = λ h.
          let greatest = subst (λ (x : Ray). greatest_value x b <ℤ pos 0) c.requires.candidate.ray (c.sides_of_box-sides.ensures.left h) in
          counts_are lines p block 0 0 (length block) (length block) (block_left lines p block b ok holds greatest) refl refl;
    }
