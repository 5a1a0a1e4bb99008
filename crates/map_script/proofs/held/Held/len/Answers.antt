use Rattle.std.proofs.Common.{[], ap, arith, length}
use Rattle.map_script.proofs.Holding.{front_long}
use Rattle.map_script.proofs.held.Held.len.Goals as goal

pub returns : goal.returns
returns c =
    let long = front_long c.self.inside.entries.items [] in
    let same = ap length c.self.view_is in
    omega (arith, c.len.ensures, c.self.inside.entries.ok.0, long, same)
