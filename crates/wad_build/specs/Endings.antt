-- Words that name lines up to an end.
use Rattle.std.specs.Prelude.{◌≡◌, ℕ, ◌<◌, ◌≤◌, Bool, false, ◌==◌, ◌&&◌, ◌||◌, nat_lt, nat_le, List, [], ◌∷◌, length, get_or, drop}

-- the number is below the number of lines and at most 32,767
abbrev pub is_line : ℕ → ℕ → Bool
is_line lines w = nat_lt w lines && nat_le w 32767

-- ffff is among the words, and each word before it is the number of a line
abbrev pub ends_in_lines : ℕ → List ℕ → Bool
ends_in_lines lines [] = false
ends_in_lines lines (w ∷ ws) = (w == 65535) || (is_line lines w && ends_in_lines lines ws)

-- for each index from `from` on, the flag says whether the words from there on name lines up to an end
pub record AreEndings (lines : ℕ) (words : List ℕ) (from : ℕ) (flags : List Bool) : Type 0 where
  pub each : (p : ℕ) → from ≤ p → p < length flags
      → get_or flags p false ≡ ends_in_lines lines (drop p words)
