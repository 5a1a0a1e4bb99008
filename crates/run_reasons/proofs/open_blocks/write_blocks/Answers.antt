use Rattle.std.proofs.Common.{◌≡◌, ◌-◌, ◌<◌, ◌≤◌, List, None, arith, get_or, length, refl, subst}
use Rattle.std.specs.Prelude.{flat_map, reverse}
use Rattle.std.specs.Io.KnownBytes.{Appends}
use Rattle.std.proofs.KnownBytes.{Appends-nil}
use Rattle.std.proofs.lemmas.List.{length-reverse, take_all}
use Rattle.run_reasons.specs.Refused.{block_among}
use Rattle.map_blocks.specs.declared.stop.OpenBlock.{OpenBlock}
use Rattle.run_reasons.proofs.WrittenBlocks.{block_more}
use Rattle.run_reasons.proofs.open_blocks.write_blocks.Goals as goal

abbrev none : OpenBlock
none = record { place = 0; number = None }

pub loop-i-init : goal.loop-i-init
loop-i-init g c = Appends-nil (g.W.Write.contents c.args.writer.now)

pub write_block_among-requires-clause-place : goal.write_block_among-requires-clause-place
write_block_among-requires-clause-place g c = c.requires.blocks (length c.args.blocks.now - 1 - c.loop-i.i) none (omega arith)

pub loop-i-preserved : goal.loop-i-preserved
loop-i-preserved g c =
    let bs : List OpenBlock = c.args.blocks.now in
    let i = c.loop-i.i in
    let b : OpenBlock = get_or bs (length bs - 1 - i) none in
    block_more (block_among c.args.lines.now c.args.files.now) bs i none b (g.W.Write.contents c.args.writer.now) (g.W.Write.contents c.loop-i.writer)
    (g.W.Write.contents c.write_block_among.new.writer) (omega arith) refl c.loop-i.invariant c.in-Ok.ensures

pub returns : goal.returns
returns g c =
    let bs : List OpenBlock = c.args.blocks.now in
    let whole : length (reverse bs) ≤ c.loop-i.i = omega (arith, length-reverse bs) in
    subst (λ (xs : List OpenBlock). Appends (g.W.Write.contents c.args.writer.now) (g.W.Write.contents c.loop-i.writer) (flat_map (block_among c.args.lines.now c.args.files.now) xs))
    (take_all c.loop-i.i (reverse bs) whole) c.loop-i.invariant
