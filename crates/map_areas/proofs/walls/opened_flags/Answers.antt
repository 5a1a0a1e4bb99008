use Rattle.std.proofs.Common.{◌<◌, ◌≤◌, ◌^◌, arith, bit_and, bit_or}
use Rattle.std.proofs.lemmas.Nat.{and_le_l, or_lt}
use Rattle.map_areas.proofs.walls.opened_flags.Goals as goal

pub returns-clause-range : goal.returns-clause-range
returns-clause-range c = λ le.
    let flags = bit_and c.args.flags 65534 in
    let fewer : flags ≤ c.args.flags = and_le_l c.args.flags 65534 in
    let lt : bit_or flags 4 < 2 ^ 15 = or_lt 15 flags 4 (omega (arith, fewer, le)) (omega arith) in
    omega (arith, lt)
