use Rattle.std.proofs.Common.{rules}
use Rattle.std.specs.Prelude.{FitsSigned}
use Rattle.std.specs.Int.{w32}
use Rattle.tree_choice.proofs.FarPlaces.{well_right, well_left, one_side}
use Rattle.tree_choice.proofs.margins.sides_of_place.Goals as goal

pub returns-clause-right : goal.returns-clause-right
returns-clause-right c =
    let m = c.args.margins in
    let v = c.value_of-value.result in
    let fa : FitsSigned w32 m.above = search rules in
    let fv : FitsSigned w32 v = search rules in
    well_right m.ray c.args.place v fv c.value_of-value.ensures.value m.above fa c.requires.margins.right

pub returns-clause-left : goal.returns-clause-left
returns-clause-left c =
    let m = c.args.margins in
    let v = c.value_of-value.result in
    let fb : FitsSigned w32 m.below = search rules in
    let fv : FitsSigned w32 v = search rules in
    well_left m.ray c.args.place v fv c.value_of-value.ensures.value m.below fb c.requires.margins.left

pub returns-clause-one : goal.returns-clause-one
returns-clause-one c =
    let m = c.args.margins in
    let v = c.value_of-value.result in
    let fa : FitsSigned w32 m.above = search rules in
    let fb : FitsSigned w32 m.below = search rules in
    let fv : FitsSigned w32 v = search rules in
    one_side m.above m.below v fa fb fv c.requires.margins.order
