use Rattle.std.proofs.Common.{rules, ◌≡◌, get_or}
use Rattle.map_words.proofs.NumeralWords.{minus-read}
use Rattle.map_words.proofs.numerals.numeral_in.Goals as goal

pub returns-in-Some-clause-value : goal.returns-in-Some-clause-value
returns-in-Some-clause-value c =
    let first : get_or c.args.word.now 0 0 ≡ 45 = search rules in
    minus-read c.args.word.now c.in-Some.n first c.in-Some.ensures.value
