-- What a file is opened for.
use Rattle.std.specs.Prelude.{Bool, false, true}
use Rattle.cli_files.specs.declared.hold.Access.{Access}
use Rattle.cli_files.specs.declared.hold.Access.TheVariants.{Reads, Writes, Making}

-- whether it may be written
abbrev pub may_write : Access → Bool
may_write Reads = false
may_write Writes = true
may_write Making = true
