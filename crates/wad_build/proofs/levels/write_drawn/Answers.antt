use Rattle.std.proofs.Common.{List, flat_map, subst}
use Rattle.std.specs.Io.KnownBytes.{Appends}
use Rattle.lump_records.specs.Records.{vertex_record}
use Rattle.lump_records.specs.declared.records.Vertex.{Vertex}
use Rattle.wad_build.proofs.PutLemmas.{put_four}
use Rattle.wad_build.proofs.levels.write_drawn.Goals as goal

pub returns-clause-lumps : goal.returns-clause-lumps
returns-clause-lumps g c =
    let of = g.W.Write.contents in
    put_four (of c.args.writer.now) (of c.write_things.new.writer) (of c.write_lines.new.writer) (of c.write_sides.new.writer) (of c.write_vertices.new.writer) _ _ _ _
    c.in_ok-write_things.ensures.lump c.in_ok-write_lines.ensures.lump c.in_ok-write_sides.ensures.lump
    (subst (λ (vs : List Vertex). Appends (of c.write_sides.new.writer) (of c.write_vertices.new.writer) (flat_map vertex_record vs)) c.deref.ensures.value c.in_ok-write_vertices.ensures.lump)
