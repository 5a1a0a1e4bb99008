-- Why a new file can't be opened.
use Rattle.std.proofs.Common.{◌≡◌, Option, None, Some}
use Rattle.std.specs.Prelude.{IfErr}
use Rattle.cli_files.specs.declared.cause.Cause.{Cause}
use Rattle.cli_files.specs.declared.cause.Cause.TheVariants.{System, Held, NotRegular, NoPwad, NoPicture, OutOfMemory}
use Rattle.cli_files.specs.declared.replaceable.Form.{Form}
use Rattle.cli_files.specs.Causes.{IsOfOpeningNew}
