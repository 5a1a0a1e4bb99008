use Rattle.std.proofs.Common.{arith}
use Rattle.map_areas.proofs.Standing.{outside_all}
use Rattle.map_areas.proofs.pillar.find_no_line.Goals as goal

pub returns-clause-outside : goal.returns-clause-outside
returns-clause-outside c = outside_all c.args.map.now.tables c.args.edges.now c.loop-n.n (omega arith) c.loop-n.invariant
