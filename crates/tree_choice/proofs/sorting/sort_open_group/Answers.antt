use Rattle.std.proofs.Common.{◌≡◌, refl, ◌+◌, ◌*◌, length, take, drop, subst, arith, All}
use Rattle.std.proofs.lemmas.List.{length-take, length-drop}
use Rattle.std.proofs.lemmas.List.Elements.{All-take, All-drop}
use Rattle.std.specs.Prelude.{pos, ◌<ℤ◌}
use Rattle.lump_records.specs.declared.plane.Ray.{Ray}
use Rattle.tree_pieces.specs.Pieces.{IsPiece}
use Rattle.tree_pieces.specs.Boxes.{least_value, greatest_value}
use Rattle.tree_choice.proofs.EndBoxes.{held_right, held_left}
use Rattle.tree_choice.proofs.OpenBlocks.{contributes, same_sorted, part_sorted}
use Rattle.tree_choice.proofs.sorting.sort_open_group.Goals as goal

pub returns-in-Right-clause-is : goal.returns-in-Right-clause-is
returns-in-Right-clause-is c =
    let lines = c.args.by.now.lines.now in
    let p = c.args.by.now.piece.now in
    let ps = c.args.blocks.now.pieces.now in
    let g = c.args.group in
    let s = c.args.sorted in
    let b = c.args.boxes in
    let block = take 256 (drop (256 * g) ps) in
    let lt = length-take 256 (drop (256 * g) ps) in
    let ld = length-drop (256 * g) ps in
    let w = c.requires.within in
    let size : length block ≡ 256 = omega arith in
    let ok : All (IsPiece lines) block = All-take (IsPiece lines) 256 (drop (256 * g) ps) (All-drop (IsPiece lines) (256 * g) ps c.requires.blocks.each) in
    let e = c.side_of_ends.ensures in
    let west = subst (λ (x : Ray). pos 0 <ℤ least_value x b.west) c.requires.candidate.ray (e.right_west c.in-Right.is) in
    let east = subst (λ (x : Ray). pos 0 <ℤ least_value x b.east) c.requires.candidate.ray (e.right_east c.in-Right.is) in
    same_sorted lines p ps (256 * g + 256) (256 * (g + 1)) (s.right + length block) (s.right + 256) (s.left + 0) s.left s.count s.count _ _
    (part_sorted lines p ps (256 * g) 256 s.right s.left s.count (length block) 0 _ c.requires.before
    (contributes lines p block (length block) 0 (held_right lines p block b ok c.requires.holds west east)) (omega arith))
    (omega arith) (omega arith) (omega arith) refl refl

pub returns-in-Left-clause-is : goal.returns-in-Left-clause-is
returns-in-Left-clause-is c =
    let lines = c.args.by.now.lines.now in
    let p = c.args.by.now.piece.now in
    let ps = c.args.blocks.now.pieces.now in
    let g = c.args.group in
    let s = c.args.sorted in
    let b = c.args.boxes in
    let block = take 256 (drop (256 * g) ps) in
    let lt = length-take 256 (drop (256 * g) ps) in
    let ld = length-drop (256 * g) ps in
    let w = c.requires.within in
    let size : length block ≡ 256 = omega arith in
    let ok : All (IsPiece lines) block = All-take (IsPiece lines) 256 (drop (256 * g) ps) (All-drop (IsPiece lines) (256 * g) ps c.requires.blocks.each) in
    let e = c.side_of_ends.ensures in
    let west = subst (λ (x : Ray). greatest_value x b.west <ℤ pos 0) c.requires.candidate.ray (e.left_west c.in-Left.is) in
    let east = subst (λ (x : Ray). greatest_value x b.east <ℤ pos 0) c.requires.candidate.ray (e.left_east c.in-Left.is) in
    same_sorted lines p ps (256 * g + 256) (256 * (g + 1)) (s.right + 0) s.right (s.left + length block) (s.left + 256) s.count s.count _ _
    (part_sorted lines p ps (256 * g) 256 s.right s.left s.count 0 (length block) _ c.requires.before
    (contributes lines p block 0 (length block) (held_left lines p block b ok c.requires.holds west east)) (omega arith))
    (omega arith) (omega arith) (omega arith) refl refl
