use Rattle.std.proofs.Common.{◌≡◌}
use Rattle.std.specs.Prelude.{bytes_eq}
use Rattle.std.specs.List.{list_any}
use Rattle.std.specs.Option.{option_copied}
use Rattle.map_words.specs.Words.{parts, parts_behind}
use Rattle.map_shapes.proofs.FieldWords.{len_left}
use Rattle.map_shapes.proofs.fields.has_name.Given as goal

-- no name so far is this one
abbrev pub invariant-loop-rest : goal.invariant-loop-rest
invariant-loop-rest l =
    list_any (λ other. bytes_eq l.name other) (parts_behind (option_copied l.rest))
    ≡ list_any (λ other. bytes_eq l.name other) (parts l.names)

abbrev pub decreases-loop-rest : goal.decreases-loop-rest
decreases-loop-rest l = len_left (option_copied l.rest)
