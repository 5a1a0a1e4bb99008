use Rattle.std.proofs.Common.{◌∙◌, ap, sym}
use Rattle.std.specs.Option.{option_copied}
use Rattle.map_words.specs.Words.{parts, parts_behind}
use Rattle.map_shapes.specs.Changes.{with_values}
use Rattle.map_shapes.specs.Texts.{and_words}
use Rattle.map_shapes.proofs.FieldWords.{with_values-none}
use Rattle.map_shapes.proofs.fields.put_values.Goals as goal

pub returns-in-None : goal.returns-in-None
returns-in-None c =
    let names = parts_behind (option_copied c.loop-names_left.names_left) in
    sym (ap (and_words c.loop-names_left.text.items) (with_values-none (parts c.args.fields.now) names))
    ∙ ap (λ o. and_words c.loop-names_left.text.items (with_values (parts c.args.fields.now) names (parts_behind (option_copied o)))) (sym c.in-None.is)
    ∙ c.loop-names_left.invariant
