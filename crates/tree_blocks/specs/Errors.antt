-- The numbers of the refusals, as docs/FORMAT.md lists them ("Numbers of the refusals").
use Rattle.std.specs.Prelude.{ℕ}
use Rattle.tree_blocks.specs.declared.error.BlockmapError.{BlockmapError}
use Rattle.tree_blocks.specs.declared.error.BlockmapError.TheVariants.{NothingToBuild, BlockmapTooLarge, OutOfMemory}

-- the number of each refusal
abbrev pub code_of : BlockmapError → ℕ
code_of NothingToBuild = 60
code_of BlockmapTooLarge = 66
code_of OutOfMemory = 31
