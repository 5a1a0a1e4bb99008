use Rattle.tree_nodes.proofs.open_tree.+grow_next.Given as goal

abbrev pub decreases-grow_next : goal.decreases-grow_next
decreases-grow_next l = l.room
