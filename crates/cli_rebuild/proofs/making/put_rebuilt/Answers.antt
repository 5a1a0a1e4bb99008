use Rattle.std.proofs.Common.{List, ℕ, subst}
use Rattle.cli_files.specs.NewFile.{file_of}
use Rattle.wad_file.specs.Placed.{IsListWritten}
use Rattle.wad_rebuild.specs.Held.{directory_of}
use Rattle.wad_rebuild.specs.Whole.{IsListOf}
use Rattle.wad_rebuild.specs.declared.levels.RebuiltLevel.{RebuiltLevel}
use Rattle.cli_rebuild.proofs.making.put_rebuilt.Goals as goal

pub returns-in-Ok-put_wad : goal.returns-in-Ok-put_wad
returns-in-Ok-put_wad g c =
    let given = c.args.given.now in
    let new = file_of c.in-Ok-open_new_of.new in
    let source = g.S.Source.known_bytes c.args.source.now in
    record {
      list = c.in-Ok.lumps;
      is = subst (λ (ls : List RebuiltLevel). IsListOf c.args.from.now.wad (directory_of given.held) given.len ls c.in-Ok.lumps) c.deref.ensures.value c.in-Ok.ensures;
      size_is = c.size-size.ensures;
      source = source;
      new = new;
      written =
          subst (λ (k : List ℕ). IsListWritten source k c.in-Ok.lumps (g.E.File.Write.contents new) (g.E.File.Write.contents c.in-Ok-put_wad.file)) c.kind.ensures.bytes
          c.in-Ok-put_wad.ensures;
    }
