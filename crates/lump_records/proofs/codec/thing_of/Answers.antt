use Rattle.std.proofs.Common.{ap, rules, ◌∙◌}
use Rattle.lump_records.specs.Records.{thing_record}
use Rattle.lump_records.proofs.RecordBytes.{thing_record-at}
use Rattle.lump_records.proofs.codec.thing_of.Goals as goal

pub returns-clause-value : goal.returns-clause-value
returns-clause-value c = search rules

pub returns-clause-inverse : goal.returns-clause-inverse
returns-clause-inverse c = ap thing_record (returns-clause-value c) ∙ thing_record-at _ (search rules) (search rules)
