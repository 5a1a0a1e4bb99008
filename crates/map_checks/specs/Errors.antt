-- The numbers of the refusals.
use Rattle.std.specs.Prelude.{ℕ}
use Rattle.map_checks.specs.declared.error.CheckError.{CheckError}
use Rattle.map_checks.specs.declared.error.CheckError.TheVariants.{OutOfMemory}

-- the number of each refusal
abbrev pub code_of : CheckError → ℕ
code_of OutOfMemory = 31
