use Rattle.std.proofs.Common.{sym, ◌∙◌, arith}
use Rattle.map_tables.specs.Ranges.{IsLine}
use Rattle.map_shapes.proofs.Items.{at_some, is_there}
use Rattle.map_shapes.proofs.door.nth_line.Goals as goal

pub unwrap-requires : goal.unwrap-requires
unwrap-requires c = is_there c.args.map.now.tables.lines c.args.n c.line.result c.line.ensures.item c.requires

pub returns-clause-item : goal.returns-clause-item
returns-clause-item c = sym c.line.ensures.item ∙ c.unwrap.ensures

pub returns-clause-range : goal.returns-clause-range
returns-clause-range c = at_some IsLine c.unwrap.result c.unwrap.ensures c.line.ensures.range
