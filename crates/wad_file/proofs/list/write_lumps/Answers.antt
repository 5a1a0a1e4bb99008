use Rattle.std.proofs.Common.{◌∙◌}
use Rattle.wad_file.proofs.PlacedLemmas.{put_more}
use Rattle.wad_file.proofs.list.write_lumps.Goals as goal

pub loop-lump-preserved : goal.loop-lump-preserved
loop-lump-preserved g c =
    let source = g.S.Source.known_bytes c.args.source.now in
    let u = g.W.Write.contents c.args.writer.now in
    let v = g.W.Write.contents c.loop-lump.writer in
    let w = g.W.Write.contents c.write_lump.new.writer in
    record {
      put =
          put_more source (g.S.Source.known_bytes c.loop-lump.source) u v w c.args.lumps.now c.loop-lump.lump-index _ c.loop-lump.invariant.stays c.loop-lump-test.true c.loop-lump.invariant.put c.in-Ok.ensures.put;
      stays = c.write_lump.ensures.stays ∙ c.loop-lump.invariant.stays;
    }
