use Rattle.std.proofs.Common.{◌≡◌, ℕ, suc, ◌+◌, ◌-◌, ◌*◌, ◌%◌, ◌^◌, ◌≤◌, ◌⊎◌, inl, inr, Bool, true, false, refl, sym, ap, subst, ◌∙◌, arith, pow-suc, if◌then◌else◌}
use Rattle.std.proofs.lemmas.Int.{to_z-of_z}
use Rattle.std.specs.Prelude.{ℤ, pos, ◌*ℤ◌}
use Rattle.std.specs.Int.{w32, w64}
use mir.Val.{bool_byte, to_z, of_z}
use Rattle.tree_pieces.specs.Angle.{half_turns, flat_bits, IsShrunk, IsDoubled, HasTurns, IsAngle}
use Rattle.tree_pieces.proofs.Wide.{IsShort, small_back}
use Rattle.tree_pieces.proofs.Turns.{one_more, all_found, turns_below, same_turns, angle_quadrant, angle_reversed}
use Rattle.tree_pieces.proofs.angle.angle16.Goals as goal
use Rattle.tree_pieces.proofs.angle.angle16.Goals.{After-shrunk-vector, After-flat_bits, then-loop-left-test+else-vector-ne0, else-loop-left-test}

-- the bit that the code adds
bit_is : (b : Bool) → bool_byte b ≡ (if b then 1 else 0)
bit_is true = refl
bit_is false = refl

byte_small : (b : Bool) → bool_byte b ≤ 1
byte_small true = omega arith
byte_small false = omega arith

-- the vector at twice the angle
doubled : (c : After-shrunk-vector) → IsDoubled c.loop-left.vector.x c.loop-left.vector.y c.shrunk-vector.result.x c.shrunk-vector.result.y
doubled c =
    let v = c.loop-left.vector in
    let w = c.shrunk-vector.result in
    subst (λ (u : ℤ). IsShrunk u (pos 2 *ℤ (v.x *ℤ v.y)) w.x w.y) c.squared.ensures.x
    (subst (λ (u : ℤ). IsShrunk c.squared.result.x u w.x w.y) c.squared.ensures.y c.shrunk-vector.ensures)

pub loop-left-preserved : goal.loop-left-preserved
loop-left-preserved c =
    let i = c.loop-left.invariant in
    let v = c.loop-left.vector in
    let w = c.shrunk-vector.result in
    let k = c.loop-left.left - 1 in
    let x = to_z w32 (of_z w32 c.args.x) in
    let y = to_z w32 (of_z w32 c.args.y) in
    let some = c.loop-left-test.true in
    let few = i.few in
    let e : c.loop-left.left ≡ suc k = omega arith in
    let bits : 16 - k ≡ suc (16 - c.loop-left.left) = omega arith in
    let power = ap (λ (n : ℕ). 2 ^ n) bits ∙ pow-suc 2 (16 - c.loop-left.left) in
    let bit = byte_small c.is_lower.result in
    let below = i.below in
    let half : bool_byte c.is_lower.result ≡ half_turns v.x v.y = bit_is c.is_lower.result ∙ ap (λ (b : Bool). (if b then 1 else 0)) c.is_lower.ensures in
    let completes = subst (λ (n : ℕ). (rest : ℕ) → HasTurns n v.x v.y rest → IsAngle x y (c.loop-left.angle * 2 ^ n + rest)) e i.completes in
    let more = one_more k x y v.x v.y w.x w.y c.loop-left.angle (doubled c) completes in
    record {
      few = omega arith;
      below = omega arith;
      x_small = c.shrunk-vector.ensures.x_small;
      y_small = c.shrunk-vector.ensures.y_small;
      completes = λ rest h. rw half (more rest h);
    }

-- no turn is left, or the vector lies along the x axis
ended : (c : After-flat_bits) → (c.loop-left.left ≡ 0) ⊎ (c.loop-left.vector.y ≡ pos 0)
ended c = elim c.loop-left-test.branch [
  | then-loop-left-test+else-vector-ne0 w ↦ inr (sym (small_back c.loop-left.vector.y c.loop-left.invariant.y_small) ∙ ap (to_z w64) w.if-vector-ne0.false)
  | else-loop-left-test w ↦ let none = w.loop-left-test.false in inl (omega arith)
]

found : (c : After-flat_bits) → IsAngle c.args.x c.args.y (c.loop-left.angle * 2 ^ c.loop-left.left + c.flat_bits.result)
found c =
    let i = c.loop-left.invariant in
    let v = c.loop-left.vector in
    let x = to_z-of_z w32 c.args.x c.ranges.x in
    let y = to_z-of_z w32 c.args.y c.ranges.y in
    let sum = λ (n : ℕ). c.loop-left.angle * 2 ^ c.loop-left.left + n in
    let bits : c.flat_bits.result ≡ flat_bits c.loop-left.left v.x = c.flat_bits.ensures ∙ ap (flat_bits c.loop-left.left) (small_back v.x i.x_small) in
    let all = all_found c.loop-left.left (to_z w32 (of_z w32 c.args.x)) (to_z w32 (of_z w32 c.args.y)) v.x v.y c.loop-left.angle i.x_small (ended c) i.completes in
    subst (λ (n : ℕ). IsAngle c.args.x c.args.y (sum n)) (sym bits)
    (subst (λ (z : ℤ). IsAngle z c.args.y (sum (flat_bits c.loop-left.left v.x))) x
    (subst (λ (z : ℤ). IsAngle (to_z w32 (of_z w32 c.args.x)) z (sum (flat_bits c.loop-left.left v.x))) y all))

-- the sum of the code
abbrev told : After-flat_bits → ℕ
told c = (c.loop-left.angle * 2 ^ c.loop-left.left) % 4294967296 + c.flat_bits.result

told_is : (c : After-flat_bits) → c.loop-left.angle * 2 ^ c.loop-left.left + c.flat_bits.result ≡ told c
told_is c = let l = turns_below 16 c.args.x c.args.y (c.loop-left.angle * 2 ^ c.loop-left.left + c.flat_bits.result) (found c) in omega arith

angle_is : (c : After-flat_bits) → IsAngle c.args.x c.args.y (told c)
angle_is c = subst (IsAngle c.args.x c.args.y) (told_is c) (found c)

pub overflow_cast-result : goal.overflow_cast-result
overflow_cast-result c = let l = turns_below 16 c.args.x c.args.y (told c) (angle_is c) in omega arith

pub returns-clause-turns : goal.returns-clause-turns
returns-clause-turns c = angle_is c

pub returns-clause-only : goal.returns-clause-only
returns-clause-only c = λ angle h. same_turns 16 c.args.x c.args.y angle (told c) h (angle_is c)

short_x : (c : After-flat_bits) → IsShort c.args.x
short_x c = record { low = c.requires.x_low; high = c.requires.x_high }

short_y : (c : After-flat_bits) → IsShort c.args.y
short_y c = record { low = c.requires.y_low; high = c.requires.y_high }

pub returns-clause-quadrant : goal.returns-clause-quadrant
returns-clause-quadrant c = angle_quadrant c.args.x c.args.y (told c) c.requires.not_zero (short_x c) (short_y c) (angle_is c)

pub returns-clause-reversed : goal.returns-clause-reversed
returns-clause-reversed c = λ angle h. angle_reversed c.args.x c.args.y (told c) angle c.requires.not_zero (angle_is c) h
