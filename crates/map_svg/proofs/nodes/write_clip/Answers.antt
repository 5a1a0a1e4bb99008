use Rattle.std.proofs.Common.{rules}
use Rattle.std.proofs.lemmas.Int.{to_z-of_z}
use Rattle.std.specs.Prelude.{FitsSigned}
use Rattle.std.specs.Int.{w32}
use Rattle.map_svg.specs.Nodes.{clip_text}
use Rattle.map_svg.proofs.nodes.write_clip.Goals as goal

pub returns : goal.returns
unfolding clip_text
returns g c =
    let f1 : FitsSigned w32 c.args.corner.x = search rules in
    let f2 : FitsSigned w32 c.args.corner.y = search rules in
    rw (to_z-of_z w32 c.args.corner.x f1, to_z-of_z w32 c.args.corner.y f2) at c.in_ok-write.ensures.bytes
