use Rattle.std.proofs.Common.{sym, subst, arith}
use Rattle.std.proofs.lemmas.Int.{ints}
use Rattle.std.specs.Prelude.{pos, FitsSigned}
use Rattle.std.specs.Int.{w16}
use Rattle.lump_records.proofs.Wide.{IsWithin}
use Rattle.tree_pieces.proofs.Bounds.{ray_dx, ray_dy}
use Rattle.tree_nodes.proofs.NodeLemmas.{fits_16, back_16, back_32, through_32, ray_is}
use Rattle.tree_nodes.proofs.growth.node_of.Goals as goal

pub overflow_cast-result : goal.overflow_cast-result
overflow_cast-result c = let h = ray_dx c.args.ray c.requires in subst (FitsSigned w16) (sym (back_32 c.args.ray.dx h)) (fits_16 c.args.ray.dx h)

pub overflow_cast-result-2 : goal.overflow_cast-result-2
overflow_cast-result-2 c = let h = ray_dy c.args.ray c.requires in subst (FitsSigned w16) (sym (back_32 c.args.ray.dy h)) (fits_16 c.args.ray.dy h)

pub returns-clause-along : goal.returns-clause-along
returns-clause-along c =
    let r = c.args.ray in
    let s = c.requires.start in
    let xl = s.x_low in
    let xh = s.x_high in
    let yl = s.y_low in
    let yh = s.y_high in
    let x : IsWithin (pos 32767) r.start.x = record { low = omega (arith, ints); high = omega (arith, ints) } in
    let y : IsWithin (pos 32767) r.start.y = record { low = omega (arith, ints); high = omega (arith, ints) } in
    ray_is r _ _ _ _ (back_16 r.start.x x) (back_16 r.start.y y) (through_32 r.dx (ray_dx r c.requires)) (through_32 r.dy (ray_dy r c.requires))
