use Rattle.std.proofs.Common.{◌∙◌}
use Rattle.map_lint.proofs.graphics.NameSet.has.Goals as goal

pub returns : goal.returns
returns c = c.contains.ensures ∙ c.requires c.args.name.now.bytes
