use Rattle.std.proofs.Common.{arith, ap, length}
use Rattle.store_journal.proofs.Parts.{length-parts}
use Rattle.store_journal.proofs.payloads.Payloads.len.Goals as goal

pub returns : goal.returns
returns c =
    let inside = c.self.inside in
    omega (arith, c.len.ensures, inside.ends.ok.0, ap length c.self.view_is, length-parts 0 inside.ends.items inside.bytes.items)
