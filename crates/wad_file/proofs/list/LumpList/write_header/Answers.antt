use Rattle.std.proofs.Common.{◌∙◌, List, ℕ, subst}
use Rattle.std.specs.Prelude.{OnOk}
use Rattle.std.specs.Io.KnownBytes.{Appends}
use Rattle.wad_file.proofs.PlacedLemmas.{head_listed}
use Rattle.wad_file.proofs.list.LumpList.write_header.Goals as goal

pub returns : goal.returns
returns g c =
    let a = c.self.inside in
    subst (λ (bytes : List ℕ). OnOk c.write_head.result (Appends (g.W.Write.contents c.args.writer.now) (g.W.Write.contents c.write_head.new.writer) bytes))
    (head_listed c.args.kind.now a.lumps.items c.args.self.now a.len c.len.result c.self.invariant c.self.view_is (c.len.ensures ∙ a.lumps.ok.0)) c.write_head.ensures
