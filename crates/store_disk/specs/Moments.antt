-- What a stop at any moment of a run leaves.
use Rattle.std.specs.Prelude.{◌≤◌, ◌⊎◌, ℕ, List}
use Rattle.store_disk.specs.declared.disk.Disk.{Ghosts}

-- A stop at any moment since `old` leaves a file with the property P.
pub record LeavesOnly {D : Type 0} (facts : Ghosts D) (old new : D) (P : List ℕ → Type 0) :
    Type 0 where
  pub later : facts.moment old ≤ facts.moment new
  pub each : (file : List ℕ) → facts.left_since new (facts.moment old) file → P file
  -- the same for a run that began earlier
  pub before : (t : ℕ) (file : List ℕ) → t ≤ facts.moment old → facts.left_since new t file
      → facts.left_since old t file ⊎ P file
