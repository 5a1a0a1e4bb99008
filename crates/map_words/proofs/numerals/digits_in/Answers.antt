use Rattle.std.proofs.Common.{◌≡◌, ◌∙◌, ◌&&◌, true, get_or, sym, arith}
use Rattle.std.proofs.lemmas.List.Folds.{list_all_at, list_all_more}
use Rattle.lump_records.specs.Names.{is_digit}
use Rattle.map_words.proofs.NumeralWords.{digit-range, value-more}
use Rattle.map_words.proofs.numerals.digits_in.Goals as goal

pub overflow_sub-byte : goal.overflow_sub-byte
overflow_sub-byte c =
    let digit : is_digit (get_or c.args.bytes.now c.loop-byte.byte-index 0) ≡ true = sym c.is_digit.ensures ∙ c.if-not-is_digit.false in
    (digit-range (get_or c.args.bytes.now c.loop-byte.byte-index 0) digit).0

pub returns-then-not-is_digit-clause-none : goal.returns-then-not-is_digit-clause-none
returns-then-not-is_digit-clause-none c =
    list_all_at is_digit c.args.bytes.now c.loop-byte.byte-index 0 c.loop-byte-test.true (sym c.is_digit.ensures ∙ c.if-not-is_digit.true)

pub loop-byte-preserved : goal.loop-byte-preserved
loop-byte-preserved c =
    let w = c.args.bytes.now in
    let i = c.loop-byte.byte-index in
    let digit : is_digit (get_or w i 0) ≡ true = sym c.is_digit.ensures ∙ c.if-not-is_digit.false in
    let range = digit-range (get_or w i 0) digit in
    let more = value-more w i c.loop-byte-test.true range in
    record {
      value = omega (arith, more, c.loop-byte.invariant.value, c.from.ensures, c.min-value.ensures, range.0);
      digits = list_all_more is_digit w i 0 c.loop-byte-test.true ∙ (λ j. c.loop-byte.invariant.digits j && digit j);
    }
