use Rattle.std.proofs.Common.{◌≡◌, ◌&&◌, length}
use Rattle.std.specs.List.{list_any}
use Rattle.map_blocks.specs.Naming.{behind_dollars, front_name, is_name_front, mentions_given, one_may_give}
use Rattle.map_blocks.proofs.mentioning.mentions_given.Given as goal

-- what is left decides
abbrev pub invariant-loop-text : goal.invariant-loop-text
invariant-loop-text l = list_any (λ t. is_name_front t && one_may_give l.given (front_name t)) (behind_dollars l.rest) ≡ mentions_given l.given l.line

abbrev pub decreases-loop-text : goal.decreases-loop-text
decreases-loop-text l = length l.rest
