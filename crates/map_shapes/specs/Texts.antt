-- A line that is composed word by word.
use Rattle.std.specs.Prelude.{ℕ, List, [], ◌∷◌, ◌++◌}

-- a text followed by words, each after a space
abbrev pub and_words : List ℕ → List (List ℕ) → List ℕ
and_words text [] = text
and_words text (w ∷ ws) = and_words (text ++ 32 ∷ w) ws
