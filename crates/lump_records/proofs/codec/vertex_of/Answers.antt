use Rattle.std.proofs.Common.{ap, rules, ◌∙◌}
use Rattle.lump_records.specs.Records.{vertex_record}
use Rattle.lump_records.proofs.RecordBytes.{vertex_record-at}
use Rattle.lump_records.proofs.codec.vertex_of.Goals as goal

pub returns-clause-value : goal.returns-clause-value
returns-clause-value c = search rules

pub returns-clause-inverse : goal.returns-clause-inverse
returns-clause-inverse c = ap vertex_record (returns-clause-value c) ∙ vertex_record-at _ (search rules) (search rules)
