-- The numbers of the refusals.
use Rattle.std.specs.Prelude.{ℕ}
use Rattle.map_lint.specs.declared.error.LintError.{LintError}
use Rattle.map_lint.specs.declared.error.LintError.TheVariants.{OutOfMemory}

-- the number of each refusal
abbrev pub code_of : LintError → ℕ
code_of OutOfMemory = 31
