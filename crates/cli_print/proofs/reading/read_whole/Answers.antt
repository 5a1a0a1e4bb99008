use Rattle.std.proofs.Common.{◌≡◌, length, arith, take, length-append}
use Rattle.std.proofs.lemmas.Grind.{common_steps}
use Rattle.run_edit.proofs.Going.{Consumes-append, Consumes-end}
use Rattle.cli_print.proofs.reading.read_whole.Goals as goal

pub loop-preserved : goal.loop-preserved
loop-preserved g c =
    let more = take c.in-Ok.count c.read_retrying.new.buffer in
    let size : length more ≡ c.in-Ok.count = grind (arith, common_steps) in
    rw c.in-Ok-extend_from_slice.ensures.items (
      Consumes-append _ _ _ c.loop.bytes.items more c.loop.invariant.0 c.in-Ok.ensures.bytes.0,
      (let some = c.if-count-eq0.false in omega (arith, c.loop.invariant.1, length-append c.loop.bytes.items more)),
    )

pub returns-then-count-eq0-clause-whole : goal.returns-then-count-eq0-clause-whole
returns-then-count-eq0-clause-whole g c = (
  Consumes-end _ _ _ c.loop.bytes.items c.read_retrying.new.buffer c.in-Ok.count c.if-count-eq0.true c.loop.invariant.0 c.in-Ok.ensures.bytes.0,
  c.in-Ok.ensures.bytes.1 c.if-count-eq0.true (grind (arith, common_steps)),
)
