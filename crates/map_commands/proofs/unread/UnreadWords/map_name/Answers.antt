use Rattle.std.proofs.Common.{◌∙◌, sym, [], ◌∷◌}
use Rattle.lump_records.specs.Names.{is_marker}
use Rattle.map_commands.specs.Places.{Named}
use Rattle.map_commands.specs.Views.{reading}
use Rattle.map_commands.proofs.Readings.{fresh, done}
use Rattle.map_commands.proofs.unread.UnreadWords.map_name.Goals as goal

pub returns-in-Ok-clause-fault : goal.returns-in-Ok-clause-fault
returns-in-Ok-clause-fault c = sym (fresh (reading c.args.self) (Named is_marker ∷ []) c.requires) ∙ c.marker-name.ensures.reads.fault [] ∙ done _ c.in-Ok.ensures.ok

pub returns-in-Err-clause-fault : goal.returns-in-Err-clause-fault
returns-in-Err-clause-fault c = sym (fresh (reading c.args.self) (Named is_marker ∷ []) c.requires) ∙ c.marker-name.ensures.reads.fault [] ∙ c.in-Err.ensures.fault
