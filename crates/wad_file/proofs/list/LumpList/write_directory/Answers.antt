use Rattle.std.proofs.Common.{List, ℕ, subst}
use Rattle.std.specs.Prelude.{OnOk}
use Rattle.std.specs.Io.KnownBytes.{Appends}
use Rattle.wad_file.proofs.PlacedLemmas.{directory_listed}
use Rattle.wad_file.proofs.list.LumpList.write_directory.Goals as goal

pub returns : goal.returns
returns g c =
    let a = c.self.inside in
    subst (λ (bytes : List ℕ). OnOk c.write_entries.result (Appends (g.W.Write.contents c.args.writer.now) (g.W.Write.contents c.write_entries.new.writer) bytes))
    (directory_listed a.lumps.items c.deref.result.now c.args.self.now a.len c.self.invariant c.self.view_is c.deref.ensures.value) c.write_entries.ensures
