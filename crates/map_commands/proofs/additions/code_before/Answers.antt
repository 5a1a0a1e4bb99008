use Rattle.std.proofs.Common.{◌∷◌, ◌∙◌, ap, sym}
use Rattle.map_words.specs.Words.{parts}
use Rattle.map_words.proofs.NumeralWords.{zero-written}
use Rattle.map_commands.proofs.additions.code_before.Goals as goal

-- a 0 is written as it stands there
pub returns-in-Some-clause-word : goal.returns-in-Some-clause-word
returns-in-Some-clause-word c = c.in-Some.ensures ∙ ap (λ word. word ∷ parts c.in-Some.rest.now) (sym zero-written)
