use Rattle.std.proofs.Common.{ap, rules, ◌∙◌}
use Rattle.lump_records.specs.Records.{node_record}
use Rattle.lump_records.proofs.RecordBytes.{node_record-at}
use Rattle.lump_records.proofs.codec.node_of.Goals as goal

pub returns-clause-value : goal.returns-clause-value
returns-clause-value c = search rules

pub returns-clause-inverse : goal.returns-clause-inverse
returns-clause-inverse c = ap node_record (returns-clause-value c) ∙ node_record-at _ (search rules) (search rules)
