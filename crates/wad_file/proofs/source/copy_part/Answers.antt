use Rattle.std.proofs.Common.{◌≡◌, ◌∙◌, ◌+◌, ◌*◌, ◌/◌, ◌%◌, ℕ, length, length-take, take, subst, arith}
use Rattle.wad_file.specs.Placed.{IsCopied}
use Rattle.wad_file.proofs.PlacedLemmas.{copied_both}
use Rattle.wad_file.proofs.source.copy_part.Goals as goal

pub loop-k-preserved : goal.loop-k-preserved
loop-k-preserved g c =
    let source = g.S.Source.known_bytes c.args.source.now in
    let u = g.W.Write.contents c.args.writer.now in
    let w = g.W.Write.contents c.copy_bytes.new.writer in
    let k = c.loop-k.k in
    let long = c.loop-k.invariant.long in
    let next : c.args.at + k * 8192 ≡ c.args.at + 8192 * k = omega arith in
    let more : 8192 * k + length c.loop-k.buffer ≡ 8192 * (k + 1) = omega (arith, long) in
    let both = copied_both source (g.S.Source.known_bytes c.loop-k.source) u (g.W.Write.contents c.loop-k.writer) w c.args.at (c.args.at + k * 8192) (8192 * k) (length c.loop-k.buffer) c.loop-k.invariant.stays next c.loop-k.invariant.copied c.in-Ok.ensures.copied in
    record {
      copied = subst (λ (n : ℕ). IsCopied source c.args.at n u w) more both;
      long = c.copy_bytes.auto.bytes ∙ long;
      stays = c.copy_bytes.ensures.stays ∙ c.loop-k.invariant.stays;
    }

pub returns-in-Ok-copy_bytes-clause-copied : goal.returns-in-Ok-copy_bytes-clause-copied
returns-in-Ok-copy_bytes-clause-copied g c =
    let source = g.S.Source.known_bytes c.args.source.now in
    let u = g.W.Write.contents c.args.writer.now in
    let w = g.W.Write.contents c.copy_bytes-2.new.writer in
    let times : 8192 * (c.args.len / 8192) ≡ 8192 * c.loop-k.k = omega (arith, c.loop-k-test.false, c.loop-k.auto.k-end) in
    let next : c.args.at + c.args.len / 8192 * 8192 ≡ c.args.at + 8192 * c.loop-k.k = omega (arith, times) in
    let rest = length-take (c.args.len % 8192) c.loop-k.buffer in
    let n = length (take (c.args.len % 8192) c.loop-k.buffer) in
    let whole : 8192 * c.loop-k.k + n ≡ c.args.len = omega (arith, times, rest, c.loop-k-test.array_long) in
    let both = copied_both source (g.S.Source.known_bytes c.loop-k.source) u (g.W.Write.contents c.loop-k.writer) w c.args.at (c.args.at + c.args.len / 8192 * 8192) (8192 * c.loop-k.k) n c.loop-k.invariant.stays next c.loop-k.invariant.copied c.in-Ok-copy_bytes.ensures.copied in
    subst (λ (m : ℕ). IsCopied source c.args.at m u w) whole both
