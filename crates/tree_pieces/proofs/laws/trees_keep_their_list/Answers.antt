use Rattle.tree_pieces.specs.Tree.{none_used}
use Rattle.tree_pieces.proofs.Trees.{first_reached, own_tree_pieces, tree_cover, tree_convex, tree_parted}
use Rattle.tree_pieces.proofs.laws.trees_keep_their_list.Goals as goal

pub returns-clause-cover : goal.returns-clause-cover
returns-clause-cover c = λ lines ps t h. tree_cover lines h.drawn t ps (none_used lines) (first_reached lines ps h.each) h.divides

pub returns-clause-convex : goal.returns-clause-convex
returns-clause-convex c = λ lines ps t h. tree_convex lines h.drawn t ps (none_used lines) (first_reached lines ps h.each) h.divides

pub returns-clause-parted : goal.returns-clause-parted
returns-clause-parted c = λ lines ps t h. tree_parted lines h.drawn t ps (none_used lines) (first_reached lines ps h.each) h.divides

pub returns-clause-pieces : goal.returns-clause-pieces
returns-clause-pieces c = λ lines ps t h. own_tree_pieces lines h.drawn t ps (none_used lines) (first_reached lines ps h.each) h.divides
