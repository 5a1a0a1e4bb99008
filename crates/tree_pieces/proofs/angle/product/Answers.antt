use Rattle.tree_pieces.proofs.Wide.{multiplied}
use Rattle.tree_pieces.proofs.angle.product.Goals as goal

pub overflow_mul-result : goal.overflow_mul-result
overflow_mul-result c = (multiplied c.args.a c.args.b c.requires.a c.requires.b).fits

pub returns-clause-value : goal.returns-clause-value
returns-clause-value c = (multiplied c.args.a c.args.b c.requires.a c.requires.b).is

pub returns-clause-low : goal.returns-clause-low
returns-clause-low c = let p = multiplied c.args.a c.args.b c.requires.a c.requires.b in rw p.is p.within.low

pub returns-clause-high : goal.returns-clause-high
returns-clause-high c = let p = multiplied c.args.a c.args.b c.requires.a c.requires.b in rw p.is p.within.high
