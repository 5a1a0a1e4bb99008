-- What the place of a piece says of its exact side values.
use Rattle.std.proofs.Common.{◌≡◌, ◌⊎◌, arith}
use Rattle.std.proofs.lemmas.Int.{ints}
use Rattle.std.specs.Prelude.{ℤ, pos, ◌≤ℤ◌, ◌<ℤ◌}
use Rattle.tree_pieces.specs.declared.piece.Place.{Place}
use Rattle.tree_pieces.specs.declared.piece.Place.TheVariants.{Right, Left, Across}
use Rattle.tree_pieces.specs.Division.{place_by}

-- u and w are the exact values of the two ends, z the inner product with the partition
pub record AtRight (u w z : ℤ) : Type 0 where
  pub from : pos 0 ≤ℤ u
  pub to : pos 0 ≤ℤ w
  pub direction : u ≡ pos 0 → w ≡ pos 0 → pos 0 <ℤ z

-- the same on the left
pub record AtLeft (u w z : ℤ) : Type 0 where
  pub from : u ≤ℤ pos 0
  pub to : w ≤ℤ pos 0
  pub direction : u ≡ pos 0 → w ≡ pos 0 → z ≤ℤ pos 0

-- what each place says
abbrev pub Means : ℤ → ℤ → ℤ → Place → Type 0
Means u w z Right = AtRight u w z
Means u w z Left = AtLeft u w z
Means u w z Across = ((pos 0 <ℤ u) × (w <ℤ pos 0)) ⊎ ((u <ℤ pos 0) × (pos 0 <ℤ w))

-- the place says it
pub place_means : (u w z : ℤ) → Means u w z (place_by u w z)
place_means u w z = grind (arith, ints)
