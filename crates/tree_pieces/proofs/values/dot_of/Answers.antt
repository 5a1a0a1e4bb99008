use Rattle.std.proofs.Common.{◌≡◌, ap, sym, ◌∙◌, subst}
use Rattle.std.specs.Prelude.{ℤ, pos, ◌+ℤ◌, ◌*ℤ◌}
use Rattle.lump_records.proofs.Wide.{IsWithin}
use Rattle.tree_pieces.proofs.Bounds.{ray_dx, ray_dy}
use Rattle.tree_pieces.proofs.Wide.{short_product}
use Rattle.tree_pieces.proofs.Shares.{short_back, IsSum, sum_by, within_more}
use Rattle.tree_pieces.proofs.values.dot_of.Goals as goal
use Rattle.tree_pieces.proofs.values.dot_of.Goals.{After-times-upward}

across_is : (c : After-times-upward) → c.times-across.result ≡ c.args.ray.dx *ℤ c.args.other.dx
across_is c = simp (short_back c.args.ray.dx (ray_dx c.args.ray c.requires.ray), short_back c.args.other.dx (ray_dx c.args.other c.requires.other)) at c.times-across.ensures

upward_is : (c : After-times-upward) → c.times-upward.result ≡ c.args.ray.dy *ℤ c.args.other.dy
upward_is c = simp (short_back c.args.ray.dy (ray_dy c.args.ray c.requires.ray), short_back c.args.other.dy (ray_dy c.args.other c.requires.other)) at c.times-upward.ensures

sum : (c : After-times-upward) → IsSum c.times-across.result c.times-upward.result
sum c =
    let r = c.args.ray in
    let o = c.args.other in
    let across = within_more (r.dx *ℤ o.dx) (short_product r.dx o.dx (ray_dx r c.requires.ray) (ray_dx o c.requires.other)) in
    let upward = within_more (r.dy *ℤ o.dy) (short_product r.dy o.dy (ray_dy r c.requires.ray) (ray_dy o c.requires.other)) in
    sum_by c.times-across.result c.times-upward.result (subst (IsWithin (pos 2305702273872822272)) (sym (across_is c)) across) (subst (IsWithin (pos 2305702273872822272)) (sym (upward_is c)) upward)

pub overflow_add-result : goal.overflow_add-result
overflow_add-result c = (sum (goal.at.overflow_add-result c).After-times-upward).fits

pub returns : goal.returns
returns c =
    let a = (goal.at.returns c).After-times-upward in
    (sum a).is ∙ ap (λ (x : ℤ). x +ℤ c.times-upward.result) (across_is a) ∙ ap (λ (x : ℤ). c.args.ray.dx *ℤ c.args.other.dx +ℤ x) (upward_is a)
