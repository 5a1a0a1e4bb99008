use Rattle.std.proofs.Common.{List, flat_map, subst}
use Rattle.std.specs.Io.KnownBytes.{Appends}
use Rattle.lump_records.specs.Records.{seg_record, sub_record, node_record}
use Rattle.lump_records.specs.declared.records.Seg.{Seg}
use Rattle.lump_records.specs.declared.records.Sub.{Sub}
use Rattle.lump_records.specs.declared.records.Node.{Node}
use Rattle.wad_build.proofs.PutLemmas.{put_three}
use Rattle.wad_build.proofs.levels.write_tree.Goals as goal

pub returns-clause-lumps : goal.returns-clause-lumps
returns-clause-lumps g c =
    let of = g.W.Write.contents in
    put_three (of c.args.writer.now) (of c.write_segs.new.writer) (of c.write_subs.new.writer) (of c.write_nodes.new.writer) _ _ _
    (subst (λ (xs : List Seg). Appends (of c.args.writer.now) (of c.write_segs.new.writer) (flat_map seg_record xs)) c.deref.ensures.value c.in_ok-write_segs.ensures.lump)
    (subst (λ (xs : List Sub). Appends (of c.write_segs.new.writer) (of c.write_subs.new.writer) (flat_map sub_record xs)) c.deref-2.ensures.value c.in_ok-write_subs.ensures.lump)
    (subst (λ (xs : List Node). Appends (of c.write_subs.new.writer) (of c.write_nodes.new.writer) (flat_map node_record xs)) c.deref-3.ensures.value c.in_ok-write_nodes.ensures.lump)
