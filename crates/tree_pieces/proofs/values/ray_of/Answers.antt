use Rattle.std.proofs.Common.{sym, subst}
use Rattle.tree_pieces.specs.declared.edge.Facing.TheVariants.{Against}
use Rattle.tree_pieces.specs.Local.{IsLineRay}
use Rattle.tree_pieces.proofs.Bounds.{line_ray}
use Rattle.tree_pieces.proofs.values.ray_of.Goals as goal

pub returns-in-Against-clause-line : goal.returns-in-Against-clause-line
returns-in-Against-clause-line c = subst IsLineRay (sym c.between-in-Against.ensures.ray) (line_ray c.args.edge Against c.requires)
