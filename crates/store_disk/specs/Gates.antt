-- A gate is one byte: what follows it is valid only if the gate is open.
use Rattle.std.specs.Prelude.{◌≢◌, ◌<◌, ℕ, List, length, slice_index}

-- a gate with this byte is open, with any other byte it is closed
abbrev pub open_gate : ℕ
open_gate = 165

-- the offset `place` is in the file, and the gate there is closed
pub record IsClosedAt (place : ℕ) (file : List ℕ) : Type 0 where
  pub within : place < length file
  pub closed : slice_index file place ≢ open_gate
