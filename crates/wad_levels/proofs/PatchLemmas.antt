-- The entries of a directory by their names.
use Rattle.std.proofs.Common.{◌≡◌, cond, ℕ, zero, suc, Bool, true, false, List, Some, ◌<◌, arith}
use Rattle.std.specs.Prelude.{bytes_eq}
use Rattle.wad_file.specs.Directory.{entry}
use Rattle.wad_levels.specs.NamedLumps.{capital_name}
use Rattle.wad_levels.specs.Patches.{last_entry}

-- the last of the first n entries with a name is one of them
pub last_among : (wad name : List ℕ) (n k : ℕ) → last_entry wad name n ≡ Some k → k < n
last_among wad name zero k is = absurd (cc)
last_among wad name (suc n) k is = by (bytes_eq (capital_name (entry wad n).name).bytes name) (last_among wad name n k) is
  where
    by : (b : Bool) → (last_entry wad name n ≡ Some k → k < n) → cond b (Some n) (last_entry wad name n) ≡ Some k → k < suc n
    by true so_far here = let same : n ≡ k = cc in omega arith
    by false so_far before = let among = so_far before in omega arith
