use Rattle.std.proofs.Common.{◌≡◌, ◌∷◌, ◌++◌, List, ℕ, sym, ◌∙◌, ap, ap₂, rules}
use Rattle.std.specs.Prelude.{decimal}
use Rattle.map_commands.specs.Grammar.{head_word}
use Rattle.map_words.specs.Words.{parts}
use Rattle.map_shapes.specs.Changes.{field_text, setting, with_values}
use Rattle.map_shapes.specs.Texts.{and_words}
use Rattle.map_shapes.proofs.Texts.{joined_words}
use Rattle.map_shapes.proofs.fields.changed_line.Goals as goal

pub returns : goal.returns
returns c =
    let head = head_word (setting c.args.kind) in
    let values = with_values (parts c.args.fields.now) (parts (field_text c.args.kind)) (parts c.args.words.now) in
    let first : c.in_ok-text.text.items ≡ head = search rules in
    let digits : c.as_bytes-2.result.now ≡ decimal c.args.number = search rules in
    let names : c.as_bytes-3.result.now ≡ field_text c.args.kind = search rules in
    let begun : c.put_word.new.text.items ≡ head ++ 32 ∷ decimal c.args.number =
    c.in_ok-put_word.ensures ∙ ap₂ (λ a b. a ++ 32 ∷ b) first digits in
    c.in_ok-put_values.ensures
    ∙ ap₂ (λ a b. and_words a (with_values (parts c.args.fields.now) (parts b) (parts c.args.words.now))) begun names
    ∙ joined_words head (decimal c.args.number ∷ values)
