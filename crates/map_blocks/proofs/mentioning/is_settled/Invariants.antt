use Rattle.std.proofs.Common.{◌≡◌, ◌&&◌, ◌||◌, length}
use Rattle.std.specs.List.{list_all}
use Rattle.map_blocks.specs.Naming.{behind_dollars, front_name, is_name_front, is_place_front, is_plain_name, is_settled}
use Rattle.map_blocks.proofs.mentioning.is_settled.Given as goal

-- what is left decides
abbrev pub invariant-loop-text : goal.invariant-loop-text
invariant-loop-text l = list_all (λ t. (is_name_front t && is_plain_name l.lines (front_name t)) || (l.places && is_place_front t)) (behind_dollars l.rest) ≡ is_settled l.places l.lines l.line

abbrev pub decreases-loop-text : goal.decreases-loop-text
decreases-loop-text l = length l.rest
