use Rattle.std.proofs.Common.{rules}
use Rattle.std.specs.Prelude.{FitsSigned}
use Rattle.std.proofs.lemmas.Int.{to_z-of_z}
use Rattle.std.specs.Int.{w16, w32}
use Rattle.tree_blocks.proofs.columns.touches_row.Goals as goal

pub returns : goal.returns
returns c =
    let e1 = to_z-of_z w32 c.args.left c.ranges.left in
    let e2 = to_z-of_z w16 c.args.bottom c.ranges.bottom in
    let f : FitsSigned w32 c.side_of_strip.result = search rules in
    let e3 = to_z-of_z w32 c.side_of_strip.result f in
    let v = simp e2 at c.side_of_strip.ensures in
    let t = simp (e1, e3) at c.touches.ensures in
    simp v at t
