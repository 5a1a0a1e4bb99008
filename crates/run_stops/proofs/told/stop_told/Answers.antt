use Rattle.std.proofs.Common.{List, ℕ, Ok, Some, subst}
use Rattle.run_reasons.specs.Refused.{TellsStop, blocks_text}
use Rattle.run_stops.proofs.told.stop_told.Goals as goal

pub returns-in-Ok-clause-told : goal.returns-in-Ok-clause-told
returns-in-Ok-clause-told c = λ file line in_file is.
    subst (λ (old : List ℕ). TellsStop {U = Unit {0}} (Ok tt) file line c.args.stop.now.code (blocks_text c.args.lines.now c.args.files.now c.args.stop.now.«open».items) (Some old)
    (Some c.write_refused.new.writer.items)) c.new-told.ensures.items (c.in-Ok.ensures line file is in_file)
