-- Relations of files: the bytes at an offset, and the file before and after a write.
use Rattle.std.specs.Prelude.{◌≡◌, ◌<◌, ◌≤◌, ◌⊎◌, ◌+◌, ℕ, max, List, length, slice_index}

-- the file has these bytes from offset `place` on
pub record HasAt (place : ℕ) (bytes file : List ℕ) : Type 0 where
  pub within : place + length bytes ≤ length file
  pub same : (i : ℕ) → i < length bytes → slice_index file (place + i) ≡ slice_index bytes i

-- offset i is outside the n bytes from `at` on
abbrev pub Outside : ℕ → ℕ → ℕ → Type 0
Outside at n i = (i < at) ⊎ (at + n ≤ i)

-- the old bytes outside the n bytes from `at` on stay, and the file gets no shorter
pub record KeepsOutside (at n : ℕ) (old new : List ℕ) : Type 0 where
  pub same : (i : ℕ) → i < length old → Outside at n i → slice_index new i ≡ slice_index old i
  pub no_shorter : length old ≤ length new

-- What a stop during a write of n bytes may leave: any bytes in the range and past the old end, a length between
-- the old one and that after the whole write, and all other bytes as before. A write of no bytes keeps the length.
pub record Torn (at n : ℕ) (old new : List ℕ) : Type 0 where
  pub keeps : KeepsOutside at n old new
  pub no_longer : length new ≤ max (length old) (at + n)
  pub nothing : n ≡ 0 → length new ≡ length old

-- the bytes between the old end and `at` are zero, as far as the file reaches
abbrev pub HasZerosBefore : ℕ → List ℕ → List ℕ → Type 0
HasZerosBefore at old new = (i : ℕ) → length old ≤ i → i < at → slice_index new i ≡ 0

-- what a failed write of n bytes leaves: any bytes in the range, zeros in a gap before it, all other bytes as
-- before
pub record Failed (at n : ℕ) (old new : List ℕ) : Type 0 where
  pub torn : Torn at n old new
  pub gap : HasZerosBefore at old new

-- A successful write: the bytes are in the range, a gap before it has zeros, and all other bytes are as before. A
-- write of no bytes changes nothing, whatever its offset.
pub record Written (at : ℕ) (bytes old new : List ℕ) : Type 0 where
  pub has : 0 < length bytes → HasAt at bytes new
  pub gap : HasZerosBefore at old new
  pub keeps : KeepsOutside at (length bytes) old new
  pub long : 0 < length bytes → length new ≡ max (length old) (at + length bytes)
  pub nothing : length bytes ≡ 0 → length new ≡ length old
