-- The numbers of the refusals.
use Rattle.std.specs.Prelude.{ℕ}
use Rattle.tree_pieces.specs.declared.error.SegsError.{SegsError}
use Rattle.tree_pieces.specs.declared.error.SegsError.TheVariants.{OutOfMemory, TooManyVertices}

-- the number by which a refusal is answered
abbrev pub code_of : SegsError → ℕ
code_of TooManyVertices = 61
code_of OutOfMemory = 31
