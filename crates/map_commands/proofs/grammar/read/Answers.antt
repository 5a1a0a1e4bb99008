use Rattle.map_commands.proofs.grammar.read.Goals as goal

pub returns-in-Some-clause-ok : goal.returns-in-Some-clause-ok
returns-in-Some-clause-ok c = rw (← c.in-Some.ensures.text, ← c.new.ensures.words) c.command.ensures.ok
