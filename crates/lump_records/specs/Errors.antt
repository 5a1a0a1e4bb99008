-- The numbers of the refusals.
use Rattle.std.specs.Prelude.{ℕ}
use Rattle.lump_records.specs.declared.error.LumpError.{LumpError}
use Rattle.lump_records.specs.declared.error.LumpError.TheVariants.{LumpLength, OutOfMemory}

-- the number of each refusal
abbrev pub code_of : LumpError → ℕ
code_of LumpLength = 50
code_of OutOfMemory = 31
