use Rattle.std.proofs.Common.{ap, rules, ◌∙◌}
use Rattle.lump_records.specs.Records.{sector_record}
use Rattle.lump_records.proofs.RecordBytes.{sector_record-at}
use Rattle.lump_records.proofs.codec.sector_of.Goals as goal

pub returns-clause-value : goal.returns-clause-value
returns-clause-value c = search rules

pub returns-clause-inverse : goal.returns-clause-inverse
returns-clause-inverse c = ap sector_record (returns-clause-value c) ∙ sector_record-at _ (search rules) (search rules)
