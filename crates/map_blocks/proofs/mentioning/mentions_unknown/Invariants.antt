use Rattle.std.proofs.Common.{◌≡◌, ◌&&◌, length, take}
use Rattle.std.specs.Prelude.{not}
use Rattle.std.specs.List.{list_any}
use Rattle.map_blocks.specs.Naming.{behind_dollars, front_name, is_name_front, mentions_unknown, one_gives}
use Rattle.map_blocks.proofs.mentioning.mentions_unknown.Given as goal

-- what is left decides
abbrev pub invariant-loop-text : goal.invariant-loop-text
invariant-loop-text l = list_any (λ t. is_name_front t && not (one_gives (take l.count l.lines) (front_name t))) (behind_dollars l.rest) ≡ mentions_unknown (take l.count l.lines) l.line

abbrev pub decreases-loop-text : goal.decreases-loop-text
decreases-loop-text l = length l.rest
