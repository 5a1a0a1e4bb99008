-- A line that is composed word by word.
use Rattle.std.specs.Prelude.{ℕ, List, [], ◌∷◌, ◌++◌}

-- the text followed by a space and a word
abbrev pub with_word : List ℕ → List ℕ → List ℕ
with_word text word = text ++ 32 ∷ word

-- a text followed by words, each after a space
abbrev pub with_each_word : List ℕ → List (List ℕ) → List ℕ
with_each_word text [] = text
with_each_word text (w ∷ ws) = with_each_word (with_word text w) ws
