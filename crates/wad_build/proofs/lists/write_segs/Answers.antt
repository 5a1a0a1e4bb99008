use Rattle.std.proofs.Common.{◌≤◌, length, arith, rules}
use Rattle.std.specs.Io.KnownBytes.{append_known}
use Rattle.std.proofs.lemmas.Option.{slice_get-get_or}
use Rattle.lump_records.specs.Records.{seg_at, seg_record}
use Rattle.wad_build.proofs.CopyLemmas.{encoded_back, encoded_more, encoded_none, encoded_sent}
use Rattle.wad_build.proofs.lists.write_segs.Goals as goal

pub loop-n-init : goal.loop-n-init
loop-n-init g c = encoded_none seg_at seg_record 12 c.args.segs.now (g.W.Write.contents c.args.writer.now) c.new-buffer.result c.new-buffer.ensures

pub loop-n-preserved : goal.loop-n-preserved
loop-n-preserved g c =
    let xs = c.args.segs.now in
    encoded_more seg_at seg_record 12 xs c.loop-n.n (g.W.Write.contents c.args.writer.now) (append_known (g.W.Write.contents c.loop-n.writer) c.loop-n.buffer)
    (append_known (g.W.Write.contents c.put.new.writer) c.put.new.self) c.seg_bytes.result _
    (slice_get-get_or xs c.loop-n.n _ c.loop-n-test.true) c.loop-n.invariant c.in_ok-put.ensures c.seg_bytes.ensures.record c.seg_bytes.ensures.inverse (search rules)

pub returns-clause-lump : goal.returns-clause-lump
returns-clause-lump g c =
    let xs = c.args.segs.now in
    let whole : length xs ≤ c.loop-n.n = omega (arith, c.loop-n-test.false) in
    encoded_sent seg_at seg_record 12 xs c.loop-n.n (g.W.Write.contents c.args.writer.now) (g.W.Write.contents c.loop-n.writer) (g.W.Write.contents c.send.new.writer) c.loop-n.buffer whole
    c.loop-n.invariant c.in_ok-send.ensures.sent

pub returns-clause-inverse : goal.returns-clause-inverse
returns-clause-inverse g c =
    let xs = c.args.segs.now in
    let whole : length xs ≤ c.loop-n.n = omega (arith, c.loop-n-test.false) in
    encoded_back seg_at seg_record 12 xs c.loop-n.n (g.W.Write.contents c.args.writer.now) _ whole (omega arith) c.loop-n.invariant
