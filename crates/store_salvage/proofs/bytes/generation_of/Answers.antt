use Rattle.std.proofs.Common.{arith, rules}
use Rattle.std.proofs.lemmas.Nat.{le_bytes_8}
use Rattle.store_salvage.proofs.bytes.generation_of.Goals as goal

pub returns : goal.returns
returns c = le_bytes_8 c.args.bytes c.read_u64.result (search rules) (λ i. search rules) (omega (arith, c.read_u64.ensures))
