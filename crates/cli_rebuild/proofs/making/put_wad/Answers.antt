use Rattle.std.proofs.Common.{subst, sym}
use Rattle.cli_files.specs.NewFile.{file_of}
use Rattle.wad_file.specs.Placed.{IsListWritten}
use Rattle.cli_rebuild.proofs.making.put_wad.Goals as goal

pub returns-in-Ok-put : goal.returns-in-Ok-put
returns-in-Ok-put g c =
    subst (λ (f : _). IsListWritten (g.S.Source.known_bytes c.args.source.now) c.args.kind.now c.args.lumps.now (g.F.Write.contents (file_of c.args.new)) (g.F.Write.contents f))
    (sym c.in-Ok-put.ensures.put) c.in-Ok.ensures
