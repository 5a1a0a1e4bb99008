use Rattle.std.proofs.Common.{◌∙◌, sym}
use Rattle.map_commands.specs.Splits.{cut_faults, split_faults}
use Rattle.map_commands.proofs.Cutting.{tells-alike, with-line, without-line}
use Rattle.map_commands.proofs.split.can_split.Goals as goal

pub returns-in-Some : goal.returns-in-Some
returns-in-Some c =
    tells-alike _ (cut_faults c.args.map.now.tables c.in-Some.line c.args.split.now.at) (split_faults c.args.map.now.tables c.args.split.now)
    (with-line c.args.map.now.tables c.args.split.now _ c.in-Some.line c.from.ensures (sym c.line.ensures.item ∙ c.in-Some.is)) c.can_cut.ensures

pub returns-in-None : goal.returns-in-None
returns-in-None c = without-line c.args.map.now.tables c.args.split.now _ c.from.ensures (sym c.line.ensures.item ∙ c.in-None.is)
