-- Texts that are written part by part.
use Rattle.std.specs.Prelude.{ℕ, List, [], ◌∷◌, ◌++◌}

-- a text, followed by those of a list
abbrev pub followed : List ℕ → List (List ℕ) → List ℕ
followed x [] = x
followed x (y ∷ rest) = x ++ followed y rest

-- the texts of a list, one after another
abbrev pub joined : List (List ℕ) → List ℕ
joined [] = []
joined (x ∷ rest) = followed x rest
