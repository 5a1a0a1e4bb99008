use Rattle.std.proofs.Common.{◌≡◌, ◌∙◌, ap, rules}
use Rattle.std.proofs.lemmas.Int.{to_z-of_z}
use Rattle.std.specs.Prelude.{ℤ, ◌+ℤ◌, ◌*ℤ◌, FitsSigned}
use Rattle.std.specs.Int.{w16}
use Rattle.tree_choice.proofs.FarPlaces.{short_is, normal_x, normal_y, by_normal, Sum, sum}
use Rattle.tree_choice.proofs.margins.value_of.Goals as goal
use Rattle.tree_choice.proofs.margins.value_of.Goals.{After-times-upward}

pub times-across-requires-clause-low : goal.times-across-requires-clause-low
times-across-requires-clause-low c =
    let n = c.args.normal in
    let f : FitsSigned w16 n.x = search rules in
    (short_is n.x f (normal_x c.args.ray n c.requires.line c.requires.normal)).low

pub times-across-requires-clause-high : goal.times-across-requires-clause-high
times-across-requires-clause-high c =
    let n = c.args.normal in
    let f : FitsSigned w16 n.x = search rules in
    (short_is n.x f (normal_x c.args.ray n c.requires.line c.requires.normal)).high

pub times-upward-requires-clause-low : goal.times-upward-requires-clause-low
times-upward-requires-clause-low c =
    let n = c.args.normal in
    let f : FitsSigned w16 n.y = search rules in
    (short_is n.y f (normal_y c.args.ray n c.requires.line c.requires.normal)).low

pub times-upward-requires-clause-high : goal.times-upward-requires-clause-high
times-upward-requires-clause-high c =
    let n = c.args.normal in
    let f : FitsSigned w16 n.y = search rules in
    (short_is n.y f (normal_y c.args.ray n c.requires.line c.requires.normal)).high

sum_is : (c : After-times-upward) → Sum c.times-across.result c.times-upward.result
sum_is c =
    let a = c.times-across.ensures in
    let b = c.times-upward.ensures in
    sum c.times-across.result c.times-upward.result (record { low = a.low; high = a.high }) (record { low = b.low; high = b.high })

pub overflow_add-result : goal.overflow_add-result
overflow_add-result c = (sum_is (goal.at.overflow_add-result c).After-times-upward).fits

pub returns-clause-value : goal.returns-clause-value
returns-clause-value c =
    let n = c.args.normal in
    let v = c.args.place in
    let fx : FitsSigned w16 n.x = search rules in
    let fy : FitsSigned w16 n.y = search rules in
    let sx : FitsSigned w16 v.x = search rules in
    let sy : FitsSigned w16 v.y = search rules in
    let a : c.times-across.result ≡ n.x *ℤ v.x = simp (to_z-of_z w16 n.x fx, to_z-of_z w16 v.x sx) at c.times-across.ensures.value in
    let b : c.times-upward.result ≡ n.y *ℤ v.y = simp (to_z-of_z w16 n.y fy, to_z-of_z w16 v.y sy) at c.times-upward.ensures.value in
    (sum_is (goal.at.returns-clause-value c).After-times-upward).is
    ∙ ap (λ (x : ℤ). x +ℤ c.times-upward.result) a ∙ ap (λ (x : ℤ). n.x *ℤ v.x +ℤ x) b ∙ by_normal c.args.ray n v.x v.y c.requires.normal

pub returns-clause-low : goal.returns-clause-low
returns-clause-low c = let d = sum_is (goal.at.returns-clause-low c).After-times-upward in rw d.is d.within.low

pub returns-clause-high : goal.returns-clause-high
returns-clause-high c = let d = sum_is (goal.at.returns-clause-high c).After-times-upward in rw d.is d.within.high
