use Rattle.std.proofs.Common.{◌≡◌, ap, ◌∙◌}
use Rattle.std.specs.Prelude.{ℤ, pos, ◌-ℤ◌, ◌*ℤ◌}
use Rattle.std.specs.Int.{w128}
use mir.Val.{to_z, of_z}
use Rattle.tree_pieces.proofs.Wide.{small_back, IsWide, long_difference, long_doubled}
use Rattle.tree_pieces.proofs.angle.Vector.squared.Goals as goal
use Rattle.tree_pieces.proofs.angle.Vector.squared.Goals.{After-product-xy}

-- the numbers of the square
x_is : (c : After-product-xy) → IsWide (to_z w128 (of_z w128 c.product-xx.result) -ℤ to_z w128 (of_z w128 c.product-yy.result)) (c.product-xx.result -ℤ c.product-yy.result)
x_is c =
    let p = c.product-xx.ensures in
    let q = c.product-yy.ensures in
    long_difference c.product-xx.result c.product-yy.result (record { low = p.low; high = p.high }) (record { low = q.low; high = q.high })

y_is : (c : After-product-xy) → IsWide (pos 2 *ℤ to_z w128 (of_z w128 c.product-xy.result)) (pos 2 *ℤ c.product-xy.result)
y_is c = let p = c.product-xy.ensures in long_doubled c.product-xy.result (record { low = p.low; high = p.high })

pub returns-clause-x : goal.returns-clause-x
returns-clause-x c =
    let bx = small_back c.args.self.x c.requires.x in
    let by = small_back c.args.self.y c.requires.y in
    let xx : c.product-xx.result ≡ c.args.self.x *ℤ c.args.self.x = rw bx at c.product-xx.ensures.value in
    let yy : c.product-yy.result ≡ c.args.self.y *ℤ c.args.self.y = rw by at c.product-yy.ensures.value in
    (x_is (goal.at.returns-clause-x c).After-product-xy).is ∙ ap (λ (z : ℤ). z -ℤ c.product-yy.result) xx ∙ ap (λ (z : ℤ). c.args.self.x *ℤ c.args.self.x -ℤ z) yy

pub returns-clause-y : goal.returns-clause-y
returns-clause-y c =
    let bx = small_back c.args.self.x c.requires.x in
    let by = small_back c.args.self.y c.requires.y in
    let xy : c.product-xy.result ≡ c.args.self.x *ℤ c.args.self.y = rw (bx, by) at c.product-xy.ensures.value in
    (y_is (goal.at.returns-clause-y c).After-product-xy).is ∙ ap (λ (z : ℤ). pos 2 *ℤ z) xy

pub returns-clause-x_low : goal.returns-clause-x_low
returns-clause-x_low c = (x_is (goal.at.returns-clause-x_low c).After-product-xy).low

pub returns-clause-x_high : goal.returns-clause-x_high
returns-clause-x_high c = (x_is (goal.at.returns-clause-x_high c).After-product-xy).high

pub returns-clause-y_low : goal.returns-clause-y_low
returns-clause-y_low c = (y_is (goal.at.returns-clause-y_low c).After-product-xy).low

pub returns-clause-y_high : goal.returns-clause-y_high
returns-clause-y_high c = (y_is (goal.at.returns-clause-y_high c).After-product-xy).high
