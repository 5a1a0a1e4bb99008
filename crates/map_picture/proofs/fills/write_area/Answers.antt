use Rattle.std.proofs.Common.{OnOk, List, ℕ, subst}
use Rattle.std.specs.Io.KnownBytes.{Appends}
use Rattle.map_picture.proofs.fills.write_area.Goals as goal

pub returns : goal.returns
returns g c =
    subst
    (λ (t : List ℕ). OnOk c.write_edges.result (Appends (g.W.Write.contents c.args.writer.now) (g.W.Write.contents c.write_edges.new.writer) t))
    c.requires c.write_edges.ensures
