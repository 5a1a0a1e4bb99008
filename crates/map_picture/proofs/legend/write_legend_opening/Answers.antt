use Rattle.std.proofs.Common.{rules}
use Rattle.std.proofs.lemmas.Int.{to_z-of_z}
use Rattle.std.specs.Prelude.{FitsSigned}
use Rattle.std.specs.Int.{w32, w64}
use Rattle.map_picture.specs.Legend.{legend_opening}
use Rattle.map_picture.proofs.legend.write_legend_opening.Goals as goal

pub returns : goal.returns
unfolding legend_opening
returns g c =
    let f1 : FitsSigned w64 c.right_edge-right.result = search rules in
    let f2 : FitsSigned w32 c.args.view.now.top = search rules in
    rw (to_z-of_z w64 c.right_edge-right.result f1, to_z-of_z w32 c.args.view.now.top f2, c.right_edge-right.ensures) at c.in_ok-write.ensures.bytes
