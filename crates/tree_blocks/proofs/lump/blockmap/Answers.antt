use Rattle.std.proofs.Common.{length, ap, arith}
use Rattle.tree_blocks.proofs.lump.blockmap.Goals as goal

pub blockmap_over-requires : goal.blockmap_over-requires
blockmap_over-requires c =
    let same = ap length c.deref.ensures.value in
    omega (arith, same, c.in_ok-lines.ensures.few)
