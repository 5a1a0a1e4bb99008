use Rattle.std.proofs.Common.{ap, rules, ◌∙◌}
use Rattle.lump_records.specs.Records.{line_record}
use Rattle.lump_records.proofs.RecordBytes.{line_record-at}
use Rattle.lump_records.proofs.codec.line_of.Goals as goal

pub returns-clause-value : goal.returns-clause-value
returns-clause-value c = search rules

pub returns-clause-inverse : goal.returns-clause-inverse
returns-clause-inverse c = ap line_record (returns-clause-value c) ∙ line_record-at _ (search rules) (search rules)
