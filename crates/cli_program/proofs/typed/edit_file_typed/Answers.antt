use Rattle.cli_program.proofs.Sources.{typed_into}
use Rattle.cli_program.proofs.typed.edit_file_typed.Goals as goal

pub returns-clause-typed : goal.returns-clause-typed
returns-clause-typed g c = rw c.ended_over.ensures (typed_into _ _ _ _ _ _ _ _ c.edit_typed-how.ensures.typed)
