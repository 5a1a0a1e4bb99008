use Rattle.std.proofs.Common.{ap, rules, ◌∙◌}
use Rattle.lump_records.specs.Records.{sub_record}
use Rattle.lump_records.proofs.RecordBytes.{sub_record-at}
use Rattle.lump_records.proofs.codec.sub_of.Goals as goal

pub returns-clause-value : goal.returns-clause-value
returns-clause-value c = search rules

pub returns-clause-inverse : goal.returns-clause-inverse
returns-clause-inverse c = ap sub_record (returns-clause-value c) ∙ sub_record-at _ (search rules) (search rules)
