use Rattle.wad_file.proofs.PlacedLemmas.{list_written}
use Rattle.wad_file.proofs.list.LumpList.write_to.Goals as goal

pub returns : goal.returns
returns g c =
    let a = c.self.inside in
    list_written (g.S.Source.known_bytes c.args.source.now) (g.W.Write.contents c.args.writer.now) (g.W.Write.contents c.write_header.new.writer) (g.W.Write.contents c.write_lumps.new.writer)
    (g.W.Write.contents c.write_directory.new.writer) c.args.kind.now a.lumps.items c.deref.result.now c.args.self.now a.len c.self.invariant c.self.view_is c.deref.ensures.value c.requires.kind
    c.requires.fits c.in_ok-write_header.ensures c.in_ok-write_lumps.ensures.put c.in_ok-write_directory.ensures
