use Rattle.std.proofs.Common.{◌≡◌, sym, ◌∙◌, true, rules}
use Rattle.lump_records.specs.Names.{is_name}
use Rattle.map_words.specs.Words.{is_word}
use Rattle.map_commands.proofs.Padding.{found-name, name-word}
use Rattle.map_commands.proofs.names.name_in.Goals as goal

pub returns-then-is_name-clause-found : goal.returns-then-is_name-clause-found
returns-then-is_name-clause-found c =
    found-name c.args.word.now c.from_text.result c.from_text.ensures.name (sym c.is_name.ensures ∙ c.if-is_name.true)

pub returns-then-is_name-clause-fault : goal.returns-then-is_name-clause-fault
returns-then-is_name-clause-fault c =
    let name : is_name c.args.word.now ≡ true = sym c.is_name.ensures ∙ c.if-is_name.true in
    let word : is_word c.args.word.now ≡ true = name-word c.args.word.now name in
    search (rules, name, word)
