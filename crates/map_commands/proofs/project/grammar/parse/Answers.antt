use Rattle.map_commands.proofs.ProjectWords.{complete, not-long}
use Rattle.map_commands.proofs.project.grammar.parse.Goals as goal

pub returns-clause-all : goal.returns-clause-all
returns-clause-all c = complete c.args.line.now c.read.result c.read.ensures.ok c.read.ensures.fault

pub returns-clause-short : goal.returns-clause-short
returns-clause-short c = not-long c.args.line.now c.read.result c.read.ensures.fault
