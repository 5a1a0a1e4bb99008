use Rattle.std.proofs.Common.{◌≡◌, ap, ◌∙◌, rules}
use Rattle.std.proofs.lemmas.Int.{to_z-of_z}
use Rattle.std.specs.Prelude.{ℤ, pos, ◌+ℤ◌, ◌*ℤ◌, FitsSigned}
use Rattle.std.specs.Int.{w64, int_div_euclid}
use Rattle.tree_pieces.proofs.Wide.{n_within, lengthened, in_half_word, IsHeld, held, twice_product}
use Rattle.tree_pieces.proofs.line_points.steps_along.Goals as goal
use Rattle.tree_pieces.proofs.line_points.steps_along.Goals.{After-product-part}

pub product-part-requires-clause-a_low : goal.product-part-requires-clause-a_low
product-part-requires-clause-a_low c = (in_half_word c.args.at.n (n_within c.args.at c.requires.fraction)).low

pub product-part-requires-clause-a_high : goal.product-part-requires-clause-a_high
product-part-requires-clause-a_high c = (in_half_word c.args.at.n (n_within c.args.at c.requires.fraction)).high

part_is : (c : After-product-part) → c.product-part.result ≡ c.args.at.n *ℤ c.args.way
part_is c = simp (lengthened c.args.at.n (n_within c.args.at c.requires.fraction), to_z-of_z w64 c.args.way c.ranges.way) at c.product-part.ensures

-- what the code holds in 64 bits is what it means
is_held : (c : After-product-part) → IsHeld c.product-part.result c.args.at.d
is_held c = held c.args.at c.args.way c.product-part.result c.requires.fraction (record { low = c.requires.low; high = c.requires.high }) (part_is c)

pub overflow_mul-part : goal.overflow_mul-part
overflow_mul-part c = (is_held (goal.at.overflow_mul-part c).After-product-part).part_fits

pub overflow_add-part : goal.overflow_add-part
overflow_add-part c = (is_held (goal.at.overflow_add-part c).After-product-part).sum_fits

pub overflow_mul-d : goal.overflow_mul-d
overflow_mul-d c = (is_held (goal.at.overflow_mul-d c).After-product-part).d_fits

pub div_euclid-requires-clause-nonzero : goal.div_euclid-requires-clause-nonzero
div_euclid-requires-clause-nonzero c = let h = is_held (goal.at.div_euclid-requires-clause-nonzero c).After-product-part in rw h.d_is h.not_zero

pub div_euclid-requires-clause-no_overflow : goal.div_euclid-requires-clause-no_overflow
div_euclid-requires-clause-no_overflow c = λ p q. let h = is_held (goal.at.div_euclid-requires-clause-no_overflow c).After-product-part in h.not_minus_one (rw h.d_is at p)

pub returns : goal.returns
returns c =
    let h = is_held (goal.at.returns c).After-product-part in
    let q : FitsSigned w64 c.div_euclid.result = search rules in
    let e = simp (h.sum_is, h.d_is) at c.div_euclid.ensures in
    let f = ap (λ (x : ℤ). pos 2 *ℤ x) (part_is (goal.at.returns c).After-product-part) ∙ twice_product c.args.at.n c.args.way in
    to_z-of_z w64 c.div_euclid.result q ∙ e ∙ ap (λ (x : ℤ). int_div_euclid (x +ℤ c.args.at.d) (pos 2 *ℤ c.args.at.d)) f
