-- The numbers of the refusals that cut off the drawing of a script.
use Rattle.std.specs.Prelude.{ℕ}
use Rattle.run_canvas.specs.declared.error.ScriptError.{ScriptError}
use Rattle.run_canvas.specs.declared.error.ScriptError.TheVariants.{OutOfMemory, WriterFailed}

-- the number of a refusal
abbrev pub code_of : ScriptError → ℕ
code_of OutOfMemory = 31
code_of WriterFailed = 38
