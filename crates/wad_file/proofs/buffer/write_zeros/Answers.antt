use Rattle.std.proofs.Common.{◌≡◌, ◌+◌, ◌*◌, ◌%◌, arith}
use Rattle.wad_file.proofs.BufferLemmas.{zeros_more, zeros_whole}
use Rattle.wad_file.proofs.buffer.write_zeros.Goals as goal

pub loop-preserved : goal.loop-preserved
loop-preserved g c =
    zeros_more (g.W.Write.contents c.args.writer.now) (g.W.Write.contents c.loop.writer) (g.W.Write.contents c.write_all.new.self) c.loop.counter c.loop.invariant c.in_ok-write_all.ensures.bytes

pub returns : goal.returns
returns g c =
    let whole : 8192 * c.loop.counter + c.args.len % 8192 ≡ c.args.len = omega (arith, c.loop-test.false, c.loop.auto.counter-end) in
    zeros_whole (g.W.Write.contents c.args.writer.now) (g.W.Write.contents c.loop.writer) (g.W.Write.contents c.write_all-2.new.self) c.loop.counter c.args.len whole c.loop.invariant c.in_ok-write_all-2.ensures.bytes
