-- Runs of numbers, each given by its first and its last.
use Rattle.std.specs.Prelude.{Bool, ◌&&◌, List, ℤ, int_le}
use Rattle.std.specs.List.{list_any}

-- the number lies in one of the runs
abbrev pub is_among : List (ℤ × ℤ) → ℤ → Bool
is_among runs z = list_any (λ run. int_le run.0 z && int_le z run.1) runs
