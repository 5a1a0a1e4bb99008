use Rattle.std.proofs.Common.{◌≡◌}
use Rattle.std.specs.Option.{option_copied}
use Rattle.map_words.specs.Words.{parts, parts_behind}
use Rattle.map_shapes.specs.Changes.{are_fields, field_text}
use Rattle.map_shapes.proofs.FieldWords.{len_left}
use Rattle.map_shapes.proofs.fields.are_fields.Given as goal

-- each word so far is a field's
abbrev pub invariant-loop-rest : goal.invariant-loop-rest
invariant-loop-rest l =
    are_fields (parts (field_text l.fn.kind)) (parts_behind (option_copied l.rest))
    ≡ are_fields (parts (field_text l.fn.kind)) (parts l.fields)

abbrev pub decreases-loop-rest : goal.decreases-loop-rest
decreases-loop-rest l = len_left (option_copied l.rest)
