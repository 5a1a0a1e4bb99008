use Rattle.std.proofs.Common.{sym, arith}
use Rattle.run_canvas.proofs.Origins.{remove_past}
use Rattle.run_canvas.proofs.map_origins.remove_at.Goals as goal

pub returns-else-n-len : goal.returns-else-n-len
returns-else-n-len c = sym (remove_past c.args.list.now.items c.args.n (omega (arith, c.args.list.now.ok.0, c.len.ensures, c.if-n-len.false)))
