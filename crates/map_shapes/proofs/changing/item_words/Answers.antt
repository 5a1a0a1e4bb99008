use Rattle.std.proofs.Common.{◌≡◌, ◌∷◌, [], List, ℕ, sym, ◌∙◌, ap, drop, Some, rules}
use Rattle.std.specs.Option.{option_copied}
use Rattle.map_commands.proofs.Commands.{parts-spelling}
use Rattle.map_commands.specs.Spelling.{item_words}
use Rattle.map_words.specs.Words.{parts, parts_behind}
use Rattle.map_commands.specs.declared.command.Command.TheVariants.{Edit}
use Rattle.map_tables.specs.declared.edit.Edit.TheVariants.{Add}
use Rattle.map_shapes.proofs.Settings.{has_words}
use Rattle.map_shapes.proofs.changing.item_words.Goals as goal

pub unreachable-requires : goal.unreachable-requires
unreachable-requires c =
    let line : parts c.deref.result.now ≡ parts c.in_ok-line.line.items = ap parts c.deref.ensures.value in
    let words : parts_behind (option_copied c.next_part.result.1) ≡ item_words c.args.item =
    ap (drop 1) (sym c.next_part.ensures.parts ∙ line ∙ ap parts c.in_ok-line.ensures.spelling ∙ parts-spelling (Edit (Add c.args.item)) c.requires) in
    has_words c.args.item (sym (ap (λ o. parts_behind (option_copied o)) c.in-None.is) ∙ words)

pub returns-clause-words : goal.returns-clause-words
returns-clause-words c =
    let line : parts c.deref.result.now ≡ parts c.in_ok-line.line.items = ap parts c.deref.ensures.value in
    let words : parts_behind (option_copied c.next_part.result.1) ≡ item_words c.args.item =
    ap (drop 1) (sym c.next_part.ensures.parts ∙ line ∙ ap parts c.in_ok-line.ensures.spelling ∙ parts-spelling (Edit (Add c.args.item)) c.requires) in
    let copied : c.in_ok-to_vec-in-Some.field-0.items ≡ c.in-Some.words.now = search rules in
    ap parts copied ∙ sym (ap (λ o. parts_behind (option_copied o)) c.in-Some.is) ∙ words
