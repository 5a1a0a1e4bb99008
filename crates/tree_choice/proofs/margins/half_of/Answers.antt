use Rattle.std.proofs.Common.{arith}
use Rattle.std.proofs.lemmas.Int.{ints}
use Rattle.tree_pieces.proofs.Bounds.{ray_dx, ray_dy}
use Rattle.tree_choice.proofs.FarPlaces.{abs_short}
use Rattle.tree_choice.proofs.margins.half_of.Goals as goal

pub overflow_add-sum : goal.overflow_add-sum
overflow_add-sum c =
    let r = c.args.ray in
    let x = abs_short r.dx (ray_dx r c.requires) in
    let y = abs_short r.dy (ray_dy r c.requires) in
    omega (arith, ints)

pub overflow_cast-result : goal.overflow_cast-result
overflow_cast-result c =
    let r = c.args.ray in
    let x = abs_short r.dx (ray_dx r c.requires) in
    let y = abs_short r.dy (ray_dy r c.requires) in
    omega (arith, ints)

pub returns-clause-enough : goal.returns-clause-enough
returns-clause-enough c =
    let r = c.args.ray in
    let x = abs_short r.dx (ray_dx r c.requires) in
    let y = abs_short r.dy (ray_dy r c.requires) in
    omega (arith, ints)

pub returns-clause-low : goal.returns-clause-low
returns-clause-low c =
    let r = c.args.ray in
    let x = abs_short r.dx (ray_dx r c.requires) in
    let y = abs_short r.dy (ray_dy r c.requires) in
    omega (arith, ints)

pub returns-clause-high : goal.returns-clause-high
returns-clause-high c =
    let r = c.args.ray in
    let x = abs_short r.dx (ray_dx r c.requires) in
    let y = abs_short r.dy (ray_dy r c.requires) in
    omega (arith, ints)
