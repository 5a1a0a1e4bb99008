use Rattle.std.proofs.Common.{◌≤◌, length, arith, rules}
use Rattle.std.specs.Io.KnownBytes.{append_known}
use Rattle.std.proofs.lemmas.Option.{slice_get-get_or}
use Rattle.lump_records.specs.Records.{vertex_at, vertex_record}
use Rattle.wad_build.proofs.CopyLemmas.{encoded_back, encoded_more, encoded_none, encoded_sent}
use Rattle.wad_build.proofs.lists.write_vertices.Goals as goal

pub loop-n-init : goal.loop-n-init
loop-n-init g c = encoded_none vertex_at vertex_record 4 c.args.vertices.now (g.W.Write.contents c.args.writer.now) c.new-buffer.result c.new-buffer.ensures

pub loop-n-preserved : goal.loop-n-preserved
loop-n-preserved g c =
    let xs = c.args.vertices.now in
    encoded_more vertex_at vertex_record 4 xs c.loop-n.n (g.W.Write.contents c.args.writer.now) (append_known (g.W.Write.contents c.loop-n.writer) c.loop-n.buffer)
    (append_known (g.W.Write.contents c.put.new.writer) c.put.new.self) c.vertex_bytes.result _
    (slice_get-get_or xs c.loop-n.n _ c.loop-n-test.true) c.loop-n.invariant c.in_ok-put.ensures c.vertex_bytes.ensures.record c.vertex_bytes.ensures.inverse (search rules)

pub returns-clause-lump : goal.returns-clause-lump
returns-clause-lump g c =
    let xs = c.args.vertices.now in
    let whole : length xs ≤ c.loop-n.n = omega (arith, c.loop-n-test.false) in
    encoded_sent vertex_at vertex_record 4 xs c.loop-n.n (g.W.Write.contents c.args.writer.now) (g.W.Write.contents c.loop-n.writer) (g.W.Write.contents c.send.new.writer) c.loop-n.buffer whole
    c.loop-n.invariant c.in_ok-send.ensures.sent

pub returns-clause-inverse : goal.returns-clause-inverse
returns-clause-inverse g c =
    let xs = c.args.vertices.now in
    let whole : length xs ≤ c.loop-n.n = omega (arith, c.loop-n-test.false) in
    encoded_back vertex_at vertex_record 4 xs c.loop-n.n (g.W.Write.contents c.args.writer.now) _ whole (omega arith) c.loop-n.invariant
