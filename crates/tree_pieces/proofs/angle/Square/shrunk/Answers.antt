use Rattle.std.proofs.Common.{◌≡◌, ℕ, ◌+◌, ◌<◌, ◌≤◌, ◌^◌, sym, ◌∙◌, subst, true, false, below_more, pow-suc, suc, ap, arith}
use Rattle.std.proofs.Math.Nat.{le-max_left, le-max_right}
use Rattle.std.specs.Prelude.{unsigned_abs}
use Rattle.std.specs.Int.{int_shr}
use Rattle.tree_pieces.specs.Angle.{IsIn62Bits}
use Rattle.tree_pieces.proofs.Shifts.{one_not_small, small_behind}
use Rattle.tree_pieces.proofs.angle.Square.shrunk.Goals as goal
use Rattle.tree_pieces.proofs.angle.Square.shrunk.Goals.{After-shifted-near}

x_enough : (c : After-shifted-near) → unsigned_abs c.args.self.x < 2 ^ (62 + c.excess-shift.result)
x_enough c =
    let e = c.excess-shift.ensures.enough in
    let m = le-max_left (unsigned_abs c.args.self.x) (unsigned_abs c.args.self.y) in
    omega (arith, c.size.ensures)

y_enough : (c : After-shifted-near) → unsigned_abs c.args.self.y < 2 ^ (62 + c.excess-shift.result)
y_enough c =
    let e = c.excess-shift.ensures.enough in
    let m = le-max_right (unsigned_abs c.args.self.x) (unsigned_abs c.args.self.y) in
    omega (arith, c.size.ensures)

one_higher : (a k : ℕ) → a < 2 ^ (62 + k) → a < 2 ^ (62 + (k + 1))
one_higher a k h = let p = pow-suc 2 (62 + k) in let e : 62 + (k + 1) ≡ suc (62 + k) = omega arith in let q = ap (λ (n : ℕ). 2 ^ n) e in omega arith

least : (c : After-shifted-near) → (less : ℕ) → less < c.excess-shift.result → IsIn62Bits (int_shr c.args.self.x less) → IsIn62Bits (int_shr c.args.self.y less) → ⊥
least c less h = one_not_small c.args.self.x c.args.self.y less (subst (λ (n : ℕ). 2 ^ (less + 62) ≤ n) c.size.ensures (c.excess-shift.ensures.none_less less h))

pub shifted-requires-clause-x : goal.shifted-requires-clause-x
shifted-requires-clause-x c = one_higher (unsigned_abs c.args.self.x) c.excess-shift.result (x_enough (goal.at.shifted-requires-clause-x c).After-shifted-near)

pub shifted-requires-clause-y : goal.shifted-requires-clause-y
shifted-requires-clause-y c = one_higher (unsigned_abs c.args.self.y) c.excess-shift.result (y_enough (goal.at.shifted-requires-clause-y c).After-shifted-near)

pub returns-then-is_small : goal.returns-then-is_small
returns-then-is_small c =
    let s = c.is_small.ensures.0 c.if-is_small.true in
    record {
      shift = c.excess-shift.result;
      x_is = c.shifted-near.ensures.x;
      y_is = c.shifted-near.ensures.y;
      x_small = s.0;
      y_small = s.1;
      least = least (goal.at.returns-then-is_small c).After-shifted-near;
    }

pub returns-else-is_small : goal.returns-else-is_small
returns-else-is_small c =
    let before = (goal.at.returns-else-is_small c).After-shifted-near in
    let k = c.excess-shift.result in
    record {
      shift = k + 1;
      x_is = c.shifted.ensures.x;
      y_is = c.shifted.ensures.y;
      x_small = subst IsIn62Bits (sym c.shifted.ensures.x) (small_behind c.args.self.x k (x_enough before));
      y_small = subst IsIn62Bits (sym c.shifted.ensures.y) (small_behind c.args.self.y k (y_enough before));
      least = below_more (λ less. IsIn62Bits (int_shr c.args.self.x less) → IsIn62Bits (int_shr c.args.self.y less) → ⊥) k (least before)
          (λ sx sy.
          let t : c.is_small.result ≡ true = c.is_small.ensures.1 (subst IsIn62Bits (sym c.shifted-near.ensures.x) sx, subst IsIn62Bits (sym c.shifted-near.ensures.y) sy) in
          let f = c.if-is_small.false in
          let both : true ≡ false = sym t ∙ f in
          cc);
    }
