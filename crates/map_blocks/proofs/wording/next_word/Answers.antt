use Rattle.std.proofs.Common.{◌≡◌, ◌∙◌, length, rules, sym}
use Rattle.map_blocks.proofs.Worded.{no_bytes, no_words}
use Rattle.map_blocks.proofs.wording.next_word.Goals as goal

pub returns-then-is_empty : goal.returns-then-is_empty
returns-then-is_empty c =
    let none : length c.first_word.result.0.now ≡ 0 = search rules in
    record { words = no_words c.args.text.now (sym c.first_word.ensures.first ∙ no_bytes c.first_word.result.0.now none) }
