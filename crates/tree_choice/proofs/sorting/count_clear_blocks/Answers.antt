use Rattle.std.proofs.Common.{rules, Bool, set, sym, ◌+◌, ◌*◌, ◌<◌, length, take, drop, get_or, subst, ap, ◌∙◌, arith, All}
use Rattle.std.proofs.lemmas.List.Elements.{All-take, All-drop}
use Rattle.std.proofs.lemmas.List.{get_or-replicate, length-set}
use Rattle.std.specs.Prelude.{ℤ, pos, ◌<ℤ◌, nat_eq, bit_or, FitsSigned}
use Rattle.std.specs.Int.{w16}
use mir.Val.{bool_byte}
use Rattle.tree_choice.specs.Sorting.{AreClearBlocks}
use Rattle.lump_records.specs.declared.plane.Ray.{Ray}
use Rattle.tree_pieces.specs.Plane.{vertex_value}
use Rattle.tree_pieces.specs.Pieces.{IsPiece}
use Rattle.tree_pieces.specs.Boxes.{least_value, greatest_value}
use Rattle.tree_pieces.proofs.BlockCounts.{block_right, block_left}
use Rattle.tree_choice.specs.Sights.{IsNormal, low_corner, high_corner}
use Rattle.tree_choice.proofs.Best.{stands_at}
use Rattle.tree_choice.proofs.BoxLemmas.{no_box}
use Rattle.tree_choice.proofs.Columns.{column_length, read}
use Rattle.tree_choice.proofs.Corners.{low_is, high_is, no_vertex, place_by_16}
use Rattle.tree_choice.proofs.ClearBlocks.{no_blocks, blocks_step, at_most_one, flag_is}
use Rattle.tree_choice.proofs.sorting.count_clear_blocks.Goals as goal
use Rattle.tree_choice.proofs.sorting.count_clear_blocks.Goals.{In-loop-n}

-- the block has a box
has_box : (c : In-loop-n) → c.args.from + c.loop-n.n < length c.args.blocks.now.boxes.now
has_box c =
    let ps = c.args.blocks.now.pieces.now in
    let t = c.loop-n-test.true in
    let w = c.requires.whole in
    let n = c.requires.blocks.boxes.enough in
    omega arith

pub bounds-lows-k : goal.bounds-lows-k
bounds-lows-k c =
    let w = has_box (goal.at.bounds-lows-k c).In-loop-n in
    let l = column_length (low_corner c.args.by.now.margins.ray) c.args.blocks.now.boxes.now c.args.blocks.now.lows.now c.requires.blocks.corners.lows_are in
    omega arith

pub bounds-highs-k : goal.bounds-highs-k
bounds-highs-k c =
    let w = has_box (goal.at.bounds-highs-k c).In-loop-n in
    let l = column_length (high_corner c.args.by.now.margins.ray) c.args.blocks.now.boxes.now c.args.blocks.now.highs.now c.requires.blocks.corners.highs_are in
    omega arith

pub sides_of_corners-sides-requires-clause-normal : goal.sides_of_corners-sides-requires-clause-normal
sides_of_corners-sides-requires-clause-normal c =
    let r = c.args.by.now.margins.ray in
    let t = c.loop-n-test.true in
    let few = c.requires.few in
    subst (IsNormal r) (sym (get_or-replicate 16 c.loop-n.n c.args.by.now.margins.normal _ (omega arith))) c.requires.candidate.margins.normal

pub loop-n-init : goal.loop-n-init
loop-n-init c =
    let room = c.requires.room in
    record {
      is = no_blocks c.args.by.now.lines.now c.args.by.now.piece.now c.args.blocks.now.pieces.now c.args.from c.args.flags.now;
      right = omega arith;
      left = omega arith;
      room = room;
    }

pub loop-n-preserved : goal.loop-n-preserved
loop-n-preserved c =
    let lines = c.args.by.now.lines.now in
    let p = c.args.by.now.piece.now in
    let ps = c.args.blocks.now.pieces.now in
    let blocks = c.args.blocks.now.boxes.now in
    let r = c.args.by.now.margins.ray in
    let n = c.loop-n.n in
    let k = c.args.from + n in
    let t = c.loop-n-test.true in
    let w = has_box (goal.at.loop-n-preserved c).In-loop-n in
    let i = c.loop-n.invariant in
    let ir = i.right in
    let il = i.left in
    let io = i.room in
    let few = c.requires.few in
    let within = c.requires.whole in
    let b = get_or blocks k no_box in
    let block = take 16 (drop (16 * k) ps) in
    let ok : All (IsPiece lines) block = All-take (IsPiece lines) 16 (drop (16 * k) ps) (All-drop (IsPiece lines) (16 * k) ps c.requires.blocks.each) in
    let holds = c.requires.blocks.boxes.holds k b (stands_at blocks k no_box w) in
    let lr = read (low_corner r) blocks c.args.blocks.now.lows.now k no_vertex no_box w c.requires.blocks.corners.lows_are in
    let hr = read (high_corner r) blocks c.args.blocks.now.highs.now k no_vertex no_box w c.requires.blocks.corners.highs_are in
    let ka : FitsSigned w16 (get_or c.args.blocks.now.lows.now k no_vertex).x = search rules in
    let kb : FitsSigned w16 (get_or c.args.blocks.now.lows.now k no_vertex).y = search rules in
    let ku : FitsSigned w16 (get_or c.args.blocks.now.highs.now k no_vertex).x = search rules in
    let kv : FitsSigned w16 (get_or c.args.blocks.now.highs.now k no_vertex).y = search rules in
    let low = ap (vertex_value r) (place_by_16 _ (low_corner r b) ka kb lr) ∙ low_is r b in
    let high = ap (vertex_value r) (place_by_16 _ (high_corner r b) ku kv hr) ∙ high_is r b in
    let sides = c.sides_of_corners-sides.result in
    let e = c.sides_of_corners-sides.ensures in
    let or' = at_most_one sides.right in
    let ol = at_most_one sides.left in
    let s = length-set c.loop-n.flags n (nat_eq (bit_or (bool_byte sides.right) (bool_byte sides.left)) 0) in
    record {
      is = subst (λ (f : Bool). AreClearBlocks lines p ps c.args.from (n + 1) (take (n + 1) (set c.loop-n.flags n f)) (c.loop-n.right + bool_byte sides.right) (c.loop-n.left + bool_byte sides.left))
          (sym (flag_is sides.right sides.left))
          (blocks_step lines p ps c.args.from n c.loop-n.right c.loop-n.left c.loop-n.flags sides.right sides.left (omega arith) (omega arith)
          (λ h. block_right lines p block b ok holds (subst (λ (x : Ray). pos 0 <ℤ least_value x b) c.requires.candidate.ray (subst (λ (z : ℤ). pos 0 <ℤ z) low (e.right h))))
          (λ h. block_left lines p block b ok holds (subst (λ (x : Ray). greatest_value x b <ℤ pos 0) c.requires.candidate.ray (subst (λ (z : ℤ). z <ℤ pos 0) high (e.left h))))
          i.is);
      right = omega arith;
      left = omega arith;
      room = omega arith;
    }
