use Rattle.std.proofs.Common.{rules}
use Rattle.std.specs.Prelude.{FitsSigned}
use Rattle.std.specs.Int.{w128}
use Rattle.tree_pieces.proofs.Wide.{shifted_back}
use Rattle.tree_pieces.proofs.angle.Square.shifted.Goals as goal

pub overflow_cast-result-2 : goal.overflow_cast-result-2
overflow_cast-result-2 c =
    let f : FitsSigned w128 c.args.self.x = search rules in
    (shifted_back c.args.self.x c.args.shift f c.requires.x).fits

pub overflow_cast-result-4 : goal.overflow_cast-result-4
overflow_cast-result-4 c =
    let f : FitsSigned w128 c.args.self.y = search rules in
    (shifted_back c.args.self.y c.args.shift f c.requires.y).fits

pub returns-clause-x : goal.returns-clause-x
returns-clause-x c =
    let f : FitsSigned w128 c.args.self.x = search rules in
    (shifted_back c.args.self.x c.args.shift f c.requires.x).is

pub returns-clause-y : goal.returns-clause-y
returns-clause-y c =
    let f : FitsSigned w128 c.args.self.y = search rules in
    (shifted_back c.args.self.y c.args.shift f c.requires.y).is
