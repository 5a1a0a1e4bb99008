use Rattle.std.proofs.Common.{◌≡◌}
use Rattle.std.specs.Option.{option_copied}
use Rattle.std.specs.Prelude.{bytes_eq}
use Rattle.std.specs.List.{list_any}
use Rattle.map_script.specs.Views.{len_behind}
use Rattle.map_blocks.specs.Naming.{parts_left, stands_alone}
use Rattle.map_blocks.proofs.naming.stands_alone.Given as goal

-- none of the parts so far is the name
abbrev pub invariant-loop-rest : goal.invariant-loop-rest
invariant-loop-rest l = list_any (λ part. bytes_eq part l.name) (parts_left (option_copied l.rest)) ≡ stands_alone l.name l.line

abbrev pub decreases-loop-rest : goal.decreases-loop-rest
decreases-loop-rest l = len_behind (option_copied l.rest)
