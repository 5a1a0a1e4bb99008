use Rattle.std.proofs.Common.{◌≡◌}
use Rattle.std.specs.Option.{option_copied}
use Rattle.map_words.specs.Words.{parts_behind}
use Rattle.map_shapes.specs.Changes.{value_in}
use Rattle.map_shapes.proofs.FieldWords.{len_left}
use Rattle.map_shapes.proofs.fields.value_behind.Given as goal

-- no word so far has the name
abbrev pub invariant-loop-rest : goal.invariant-loop-rest
invariant-loop-rest l =
    value_in (parts_behind (option_copied l.rest)) l.name ≡ value_in (parts_behind (option_copied l.fn.fields)) l.name

abbrev pub decreases-loop-rest : goal.decreases-loop-rest
decreases-loop-rest l = len_left (option_copied l.rest)
