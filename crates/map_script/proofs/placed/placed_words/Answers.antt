use Rattle.std.proofs.Common.{◌∙◌, ◌++◌, ◌∷◌, ap}
use Rattle.map_script.proofs.PlacedWords.{placed_joined}
use Rattle.map_script.proofs.placed.placed_words.Goals as goal

pub returns-clause-ok : goal.returns-clause-ok
returns-clause-ok c =
    placed_joined c.args.placing c.args.line.now c.in-Some.head.now c.in-Some.behind.now c.put_word.new.text.items c.put_behind.new.text.items c.without_first.result.items
    c.in-Some.ensures.words (c.in_ok-put_word.ensures.ok ∙ ap (λ t. t ++ 32 ∷ c.in-Some.head.now) c.new-text.ensures.items) c.in_ok-put_behind.ensures.ok c.without_first.ensures
