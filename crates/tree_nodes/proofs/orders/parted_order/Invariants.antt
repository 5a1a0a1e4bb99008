use Rattle.std.proofs.Common.{◌≡◌, ◌++◌, get_or, drop}
use Rattle.std.specs.Prelude.{filter_map}
use Rattle.tree_nodes.specs.Placed.{part_number}
use Rattle.tree_nodes.proofs.orders.parted_order.Given as goal

-- the parts of the pieces so far, and those of the pieces from here on
abbrev pub invariant-loop-number : goal.invariant-loop-number
invariant-loop-number l =
    l.own.items ++ filter_map (λ k. part_number (get_or l.notes k 0)) (drop l.number-index l.order) ≡ filter_map (λ k. part_number (get_or l.notes k 0)) l.order
