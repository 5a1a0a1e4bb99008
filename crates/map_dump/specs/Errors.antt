-- The numbers of the refusals.
use Rattle.std.specs.Prelude.{ℕ}
use Rattle.map_dump.specs.declared.error.DumpError.{DumpError}
use Rattle.map_dump.specs.declared.error.DumpError.TheVariants.{WriterFailed, OutOfMemory}

-- the number of each refusal
abbrev pub code_of : DumpError → ℕ
code_of WriterFailed = 38
code_of OutOfMemory = 31
