use Rattle.map_picture.specs.Style.{sheet_style}
use Rattle.std.proofs.Common.{OnOk, List, ℕ, subst}
use Rattle.std.specs.Io.KnownBytes.{Appends}
use Rattle.map_picture.proofs.sheet.write_style.Goals as goal

pub returns : goal.returns
unfolding sheet_style
returns g c =
    subst
    (λ (t : List ℕ). OnOk c.write_bytes.result (Appends (g.W.Write.contents c.args.writer.now) (g.W.Write.contents c.write_bytes.new.writer) t))
    c.as_bytes.ensures.value c.write_bytes.ensures
