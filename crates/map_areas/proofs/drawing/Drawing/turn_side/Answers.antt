use Rattle.std.proofs.Common.{ℕ, subst}
use Rattle.map_areas.specs.Drawings.{KeepsLinesBut}
use Rattle.map_areas.proofs.drawing.Drawing.turn_side.Goals as goal

pub returns-clause-kept : goal.returns-clause-kept
returns-clause-kept c =
    subst (λ (n : ℕ). KeepsLinesBut n c.args.self.now.map.tables c.face.new.self.map.tables) c.in-Some.ensures.number c.in_ok-face.ensures.kept
