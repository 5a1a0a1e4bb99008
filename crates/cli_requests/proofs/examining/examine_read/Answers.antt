use Rattle.std.proofs.Common.{List, ℕ, subst}
use Rattle.run_edit.specs.Inspections.{IsInspected}
use Rattle.cli_requests.proofs.Examined.{examined}
use Rattle.cli_requests.proofs.examining.examine_read.Goals as goal

pub returns-in-Ok-clause-examined : goal.returns-in-Ok-clause-examined
returns-in-Ok-clause-examined g c =
    let u = g.W.Write.contents c.args.writer.now in
    let w = g.W.Write.contents c.inspect.new.writer in
    let sound = c.in_ok-sound.sound in
    examined c.in_ok-wad.wad.items c.args.name.now sound c.status_told.result (g.R.Read.remaining c.args.reader.now)
    (g.R.Read.remaining c.read_wad.new.reader) u w (g.W.Write.contents c.flush.new.self) c.in_ok-wad.ensures.whole c.status_told.ensures.status
    (subst (λ (wad : List ℕ). IsInspected wad c.args.name.now sound u w) c.deref.ensures.value c.in_ok-sound.ensures.told)
    c.in-Ok.ensures.bytes
