use Rattle.std.proofs.Common.{◌≡◌}
use Rattle.std.specs.Option.{option_copied}
use Rattle.map_words.specs.Words.{parts, parts_behind}
use Rattle.map_shapes.specs.Changes.{with_values}
use Rattle.map_shapes.specs.Texts.{and_words}
use Rattle.map_shapes.proofs.FieldWords.{len_left}
use Rattle.map_shapes.proofs.fields.put_values.Given as goal

-- the words so far, and those that are left
abbrev pub invariant-loop-names_left : goal.invariant-loop-names_left
invariant-loop-names_left l =
    and_words l.text.items (with_values (parts l.fields) (parts_behind (option_copied l.names_left)) (parts_behind (option_copied l.words_left)))
    ≡ and_words l.fn.text.items (with_values (parts l.fields) (parts l.fn.names) (parts l.fn.words))

abbrev pub decreases-loop-names_left : goal.decreases-loop-names_left
decreases-loop-names_left l = len_left (option_copied l.names_left)
