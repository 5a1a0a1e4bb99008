use Rattle.std.proofs.Common.{refl, ◌+◌, ◌-◌, ◌*◌, ◌≤◌, length, take, arith}
use Rattle.std.proofs.lemmas.List.{length-take}
use Rattle.tree_choice.specs.Sorting.{flagged_numbers}
use Rattle.tree_choice.proofs.OpenBlocks.{same_sorted}
use Rattle.tree_choice.proofs.ClearBlocks.{blocks_sorted, numbers_begin}
use Rattle.tree_choice.proofs.sorting.sort_blocks.Goals as goal
use Rattle.tree_choice.proofs.sorting.sort_blocks.Goals.{Start}

-- there is room for the numbers of all blocks of the run
has_room : (c : Start) → c.args.before.count + (c.args.to - c.args.from) ≤ length c.args.noted.now
has_room c =
    let ps = c.args.blocks.now.pieces.now in
    let f = c.requires.run.forward in
    let w = c.requires.run.whole in
    let n = c.requires.blocks.boxes.enough in
    let few = c.requires.before.fewer in
    let room = c.requires.room in
    omega arith

pub note_open_blocks-count-requires-clause-room : goal.note_open_blocks-count-requires-clause-room
note_open_blocks-count-requires-clause-room c = has_room (goal.at.note_open_blocks-count-requires-clause-room c).Start

pub returns-clause-is : goal.returns-clause-is
returns-clause-is c =
    let lines = c.args.by.now.lines.now in
    let p = c.args.by.now.piece.now in
    let ps = c.args.blocks.now.pieces.now in
    let from = c.args.from in
    let to = c.args.to in
    let s = c.args.before in
    let clear = c.count_clear_blocks-clear in
    let flags = take (to - from) clear.new.flags in
    let noted = c.note_open_blocks-count in
    let f = c.requires.run.forward in
    let w = c.requires.run.whole in
    let few = c.requires.before.fewer in
    let room = has_room (goal.at.returns-clause-is c).Start in
    let lt = length-take (to - from) clear.new.flags in
    let same = noted.ensures.room in
    let m = noted.ensures.few in
    same_sorted lines p ps (16 * from + 16 * (to - from)) (16 * to) (s.right + 16 * clear.result.right) _ (s.left + 16 * clear.result.left) _ noted.result noted.result noted.new.noted noted.new.noted
    (blocks_sorted lines p ps (16 * from) (16 * (to - from)) s.right s.left s.count (16 * clear.result.right) (16 * clear.result.left) noted.result c.args.noted.now noted.new.noted (flagged_numbers from flags)
    c.requires.before clear.ensures.is noted.ensures.is (numbers_begin ps from flags (omega arith)) (omega arith) (omega arith))
    (omega arith) (omega arith) (omega arith) refl refl
