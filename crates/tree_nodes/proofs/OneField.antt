-- An offset, an angle and a least box are each fixed by what is said of them.
use Rattle.std.proofs.Common.{◌≡◌, sym, ap, ◌∙◌, subst, ℕ, zero, suc, ◌+◌, ◌*◌, ◌<◌, ◌≤◌, ◌⊎◌, inl, inr, arith}
use Rattle.std.proofs.lemmas.Bool.{cases_order}
use Rattle.std.proofs.lemmas.Int.{ints}
use Rattle.std.specs.Prelude.{ℤ, ◌≤ℤ◌, ◌*ℤ◌, ◌-ℤ◌, pos, ◌^◌}
use Rattle.std.specs.Int.{int_shr}
use Rattle.lump_records.specs.declared.records.Vertex.{Vertex}
use Rattle.lump_records.specs.declared.records.Bounds.{Bounds}
use Rattle.tree_pieces.specs.Offset.{IsOffset, squared_distance}
use Rattle.tree_pieces.specs.Angle.{HasTurns, IsAngle, IsIn62Bits, IsShrunk, half_turns}
use Rattle.tree_pieces.specs.Nodes.{IsLeastBox}

-- ---- offsets
squares : (n m : ℕ) → n < m → (n + 1) * (n + 1) ≤ m * m
squares n m l = grind arith

not_less : (d n m : ℕ) → d < (n + 1) * (n + 1) → m * m ≤ d → n < m → ⊥
not_less d n m h k l = let q = squares n m l in absurd (omega arith)

pub one_offset : (u v : Vertex) (n m : ℕ) → IsOffset u v n → IsOffset u v m → n ≡ m
one_offset u v n m a b = by (cases_order n m)
  where
    by : (n ≡ m) ⊎ ((n < m) ⊎ (m < n)) → n ≡ m
    by (inl e) = e
    by (inr (inl l)) = absurd (not_less (squared_distance u v) n m a.below b.at_least l)
    by (inr (inr l)) = absurd (not_less (squared_distance u v) m n b.below a.at_least l)

-- ---- angles
-- a lesser shift would have done
none_less : (x y a b c d : ℤ) (f : IsShrunk x y a b) (g : IsShrunk x y c d) → f.shift < g.shift → ⊥
none_less x y a b c d f g l = g.least f.shift l (subst IsIn62Bits f.x_is f.x_small) (subst IsIn62Bits f.y_is f.y_small)

one_shift : (x y a b c d : ℤ) (f : IsShrunk x y a b) (g : IsShrunk x y c d) → f.shift ≡ g.shift
one_shift x y a b c d f g = by (cases_order f.shift g.shift)
  where
    by : (f.shift ≡ g.shift) ⊎ ((f.shift < g.shift) ⊎ (g.shift < f.shift)) → f.shift ≡ g.shift
    by (inl e) = e
    by (inr (inl l)) = absurd (none_less x y a b c d f g l)
    by (inr (inr l)) = absurd (none_less x y c d a b g f l)

one_x : (x y a b c d : ℤ) → IsShrunk x y a b → IsShrunk x y c d → a ≡ c
one_x x y a b c d f g = f.x_is ∙ ap (int_shr x) (one_shift x y a b c d f g) ∙ sym g.x_is

one_y : (x y a b c d : ℤ) → IsShrunk x y a b → IsShrunk x y c d → b ≡ d
one_y x y a b c d f g = f.y_is ∙ ap (int_shr y) (one_shift x y a b c d f g) ∙ sym g.y_is

pub one_turn : (k : ℕ) (x y : ℤ) (n m : ℕ) → HasTurns k x y n → HasTurns k x y m → n ≡ m
unfolding HasTurns
one_turn zero x y n m a b = a ∙ sym b
one_turn (suc k) x y n m (u, v, r, d, t, e) (w, z, s, f, h, g) =
    let px = one_x (x *ℤ x -ℤ y *ℤ y) (pos 2 *ℤ (x *ℤ y)) u v w z d f in
    let py = one_y (x *ℤ x -ℤ y *ℤ y) (pos 2 *ℤ (x *ℤ y)) u v w z d f in
    let t' : HasTurns k w z r = subst (λ (q : ℤ). HasTurns k w q r) py (subst (λ (q : ℤ). HasTurns k q v r) px t) in
    e ∙ ap (λ (q : ℕ). half_turns x y * 2 ^ k + q) (one_turn k w z r s t' h) ∙ sym g

pub one_angle : (x y : ℤ) (n m : ℕ) → IsAngle x y n → IsAngle x y m → n ≡ m
one_angle x y n m a b = one_turn 16 x y n m a b

-- ---- boxes
between : (a b u v : ℤ) → a ≤ℤ v → v ≡ b → b ≤ℤ u → u ≡ a → a ≡ b
between a b u v h e k f = omega (arith, ints)

above : (a b u v : ℤ) → v ≤ℤ a → v ≡ b → u ≤ℤ b → u ≡ a → a ≡ b
above a b u v h e k f = omega (arith, ints)

pub one_box : (P : Vertex → Type 0) (b c : Bounds) → IsLeastBox b P → IsLeastBox c P → b ≡ c
one_box P b c f g =
    let left = between b.left c.left f.left.0.x g.left.0.x (f.inside g.left.0 g.left.1).0 g.left.2 (g.inside f.left.0 f.left.1).0 f.left.2 in
    let right = above b.right c.right f.right.0.x g.right.0.x (f.inside g.right.0 g.right.1).1 g.right.2 (g.inside f.right.0 f.right.1).1 f.right.2 in
    let bottom = between b.bottom c.bottom f.bottom.0.y g.bottom.0.y (f.inside g.bottom.0 g.bottom.1).2 g.bottom.2 (g.inside f.bottom.0 f.bottom.1).2 f.bottom.2 in
    let top = above b.top c.top f.top.0.y g.top.0.y (f.inside g.top.0 g.top.1).3 g.top.2 (g.inside f.top.0 f.top.1).3 f.top.2 in
    λ i. record { top = top i; bottom = bottom i; left = left i; right = right i }
