use Rattle.std.proofs.Common.{arith}
use Rattle.store_slots.proofs.Finding.{is_first}
use Rattle.store_slots.proofs.creation.first.Goals as goal

pub returns-clause-first : goal.returns-clause-first
returns-clause-first g c = λ file is.
    let w3 = c.in_ok-write_at-3.ensures.written file is in
    let w2 = c.in_ok-write_at-2.ensures.written w3.0 w3.1 in
    let w1 = c.in_ok-write_at.ensures.written w2.0 w2.1 in (
      w1.0,
      w1.1,
      is_first c.args.a c.args.b c.args.body.now c.first_head.result c.requires.fits c.requires.in_order (omega (arith, c.first_head.ensures.count)) c.first_head.ensures.bytes
          w1.0 w2.0 w3.0 file w1.2 w2.2 w3.2,
    )
