use Rattle.std.proofs.Common.{◌<◌, List, ℕ, length, arith}
use Rattle.run_script.proofs.AtHand.{at_next_line}
use Rattle.run_script.proofs.reading.place_at_hand.Goals as goal

pub returns-then-reading-clause-place : goal.returns-then-reading-clause-place
returns-then-reading-clause-place c =
    let lines : List (ℕ × List ℕ) = c.args.lines.now in
    let r = c.args.reading.now in
    let below : r.place < length lines = omega (arith, c.requires.until, c.if-reading.true) in
    at_next_line lines r.place r.until _ below c.if-reading.true
