use Rattle.std.proofs.Common.{sym}
use Rattle.store_journal.proofs.Parts.{behind-one}
use Rattle.store_journal.proofs.payloads.begin_in.Goals as goal

pub returns-else-n-eq0 : goal.returns-else-n-eq0
returns-else-n-eq0 c = sym (behind-one 0 c.args.ends.now c.args.n c.if-n-eq0.false)
