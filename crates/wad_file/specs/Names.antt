-- The names that a caller asks for.
use Rattle.std.specs.Prelude.{ℕ, Bool, ◌||◌, ◌==◌, List, length}
use Rattle.std.specs.List.{list_any}
use Rattle.wad_file.specs.Fields.{same_bytes}

-- there are no names, or the text is one of them
abbrev pub is_asked : List (List ℕ) → List ℕ → Bool
is_asked names text = (length names == 0) || list_any (λ name. same_bytes name text) names
