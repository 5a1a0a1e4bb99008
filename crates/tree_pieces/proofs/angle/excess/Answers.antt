use Rattle.std.proofs.Common.{ℕ, ◌<◌, ◌^◌, ◌+◌, sym, subst, arith}
use Rattle.tree_pieces.proofs.Shifts.{few_bits, over_enough, over_least}
use Rattle.tree_pieces.proofs.angle.excess.Goals as goal

pub returns-clause-most : goal.returns-clause-most
returns-clause-most c = let b = few_bits c.args.size c.requires in omega arith

pub returns-clause-enough : goal.returns-clause-enough
returns-clause-enough c = subst (λ (k : ℕ). c.args.size < 2 ^ (62 + k)) (sym c.saturating_sub.ensures) (over_enough c.args.size (omega (arith, c.requires)))

pub returns-clause-none_less : goal.returns-clause-none_less
returns-clause-none_less c = λ less h. over_least c.args.size less (omega (arith, c.requires)) (subst (λ (k : ℕ). less < k) c.saturating_sub.ensures h)
