-- The numbers of the refusals.
use Rattle.std.specs.Prelude.{ℕ}
use Rattle.tree_nodes.specs.declared.error.TreeError.{TreeError}
use Rattle.tree_nodes.specs.declared.error.TreeError.TheVariants.{OutOfMemory, NothingToBuild, TooManyVertices, TooManySegs, TooManySubsectors, TooDeep}

-- the number of each refusal
abbrev pub code_of : TreeError → ℕ
code_of OutOfMemory = 31
code_of NothingToBuild = 60
code_of TooManyVertices = 61
code_of TooManySegs = 62
code_of TooManySubsectors = 63
code_of TooDeep = 64
