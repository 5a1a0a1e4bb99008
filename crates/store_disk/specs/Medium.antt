-- The disk model: what the calls make of a disk, and what a stop may leave of it.
use Rattle.std.specs.Prelude.{◌≡◌, ◌≤◌, ◌+◌, ◌-◌, ◌&&◌, ◌||◌, ℕ, max, Bool, false, List, [], ◌∷◌, ◌++◌, length, take, drop, replicate, slice_index, nat_lt, nat_le}
use Rattle.std.specs.List.{list_any}

-- a successful call
pub data Call : Type 0 where
  Wrote : (at : ℕ) (bytes : List ℕ) → Call
  Synced : Call

-- What a disk holds: the file as it reads, the file as of the last successful sync, the ranges written since that
-- sync, each as its offset and its length, and the greatest length since.
pub record Medium : Type 0 where
  pub file : List ℕ
  pub synced : List ℕ
  pub writes : List (ℕ × ℕ)
  pub longest : ℕ

-- the file with these bytes from `at` on, and zeros in a gap before them; writing no bytes changes nothing
abbrev pub overwritten : ℕ → List ℕ → List ℕ → List ℕ
overwritten at [] file = file
overwritten at (b ∷ bytes) file =
    take at (file ++ replicate (at - length file) 0) ++ (b ∷ bytes)
    ++ drop (at + length (b ∷ bytes)) file

-- a disk that holds this file, fully synced
abbrev pub settled : List ℕ → Medium
settled file = record { file = file; synced = file; writes = []; longest = length file }

-- what a disk holds after a successful call
abbrev pub after_call : Medium → Call → Medium
after_call m (Wrote at bytes) = record {
  file = overwritten at bytes m.file;
  synced = m.synced;
  writes = m.writes ++ (at, length bytes) ∷ [];
  longest = max m.longest (length (overwritten at bytes m.file));
}
after_call m Synced = settled m.file

-- what a disk holds after these calls, in this order
abbrev pub after_calls : Medium → List Call → Medium
after_calls m [] = m
after_calls m (call ∷ calls) = after_calls (after_call m call) calls

-- offset i is in this range
abbrev pub is_in : ℕ → ℕ × ℕ → Bool
is_in i range = nat_le range.0 i && nat_lt i (range.0 + range.1)

-- the byte at offset i was written since the last successful sync, or is past the file's length at that sync
abbrev pub is_unsynced : Medium → ℕ → Bool
is_unsynced m i = nat_le (length m.synced) i || list_any (is_in i) m.writes

-- What a stop may leave: unsynced bytes may be anything, all others are as synced, and the length lies between that
-- at the last successful sync and the greatest since.
pub record IsImage (m : Medium) (file : List ℕ) : Type 0 where
  pub no_shorter : length m.synced ≤ length file
  pub no_longer : length file ≤ m.longest
  pub same : (i : ℕ) → is_unsynced m i ≡ false → slice_index file i ≡ slice_index m.synced i

-- what a stop after the first t calls, or later, might have left
abbrev pub LeftSince : Medium → List Call → ℕ → List ℕ → Type 0
LeftSince first calls t file = (k : ℕ) × (t ≤ k) × (k ≤ length calls)
    × IsImage (after_calls first (take k calls)) file

-- the size of a record of these calls, in bytes: 16 for each call, and the bytes written
abbrev pub size_of : List Call → ℕ
size_of [] = 0
size_of (Wrote at bytes ∷ calls) = 16 + length bytes + size_of calls
size_of (Synced ∷ calls) = 16 + size_of calls
