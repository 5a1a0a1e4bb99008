use Rattle.std.proofs.Common.{arith}
use Rattle.map_words.proofs.LineParts.{parts-at, parts-none}
use Rattle.map_words.proofs.parts.next_part.Goals as goal

pub returns-then-b-eq32-clause-parts : goal.returns-then-b-eq32-clause-parts
returns-then-b-eq32-clause-parts c = parts-at _ _ c.loop-i.invariant c.loop-i-test.true c.if-b-eq32.true

pub returns-clause-parts : goal.returns-clause-parts
returns-clause-parts c = parts-none _ (λ k h. c.loop-i.invariant k (omega arith))
