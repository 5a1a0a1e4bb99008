use Rattle.std.proofs.Common.{◌≡◌, ◌+◌, ◌*◌, ◌^◌, ◌&&◌, true, ap, sym, ◌∙◌, get_or, arith}
use Rattle.std.proofs.Math.Nat.{pow-succ'}
use Rattle.std.proofs.Math.Numerals.{suc-eq-add-one}
use Rattle.std.proofs.lemmas.List.Folds.{list_all_more}
use Rattle.lump_records.specs.Names.{is_digit}
use Rattle.map_words.proofs.NumeralWords.{digit-range, last-word, short-word, value-more}
use Rattle.map_words.proofs.numerals.short_natural.Goals as goal

pub returns-then-byte-eq32-clause-word : goal.returns-then-byte-eq32-clause-word
returns-then-byte-eq32-clause-word c =
    let l = c.loop-len in
    short-word c.args.text.now l.len l.value l.invariant.some l.invariant.within l.invariant.digits l.invariant.front l.invariant.value
    (omega (arith, l.auto.value-fits)) c.if-text-len.false c.if-byte-eq32.true

pub returns-then-text-len-clause-word : goal.returns-then-text-len-clause-word
returns-then-text-len-clause-word c =
    let l = c.loop-len in
    last-word c.args.text.now l.len l.value l.invariant.some l.invariant.within l.invariant.digits l.invariant.front l.invariant.value
    (omega (arith, l.auto.value-fits)) c.if-text-len.true

pub loop-len-preserved : goal.loop-len-preserved
loop-len-preserved c =
    let w = c.args.text.now in
    let l = c.loop-len in
    let digit : is_digit (get_or w l.len 0) ≡ true = sym c.is_digit-in-loop-len.ensures ∙ c.if-not-is_digit-2.false in
    let range = digit-range (get_or w l.len 0) digit in
    let more = value-more w l.len c.if-text-len.false range in
    let power : 10 ^ (l.len + 1) ≡ 10 * 10 ^ l.len = ap (λ n. 10 ^ n) (sym (suc-eq-add-one l.len)) ∙ pow-succ' 10 l.len in
    record {
      some = omega arith;
      within = omega (arith, c.if-text-len.false);
      value = omega (arith, more, l.invariant.value, c.from.ensures, range.0);
      digits = list_all_more is_digit w l.len 0 c.if-text-len.false ∙ (λ j. l.invariant.digits j && digit j);
      front = λ h. absurd (c.if-value-eq0.false (l.invariant.front h).1);
      small = omega (arith, power, l.invariant.small, c.from.ensures, range.1);
    }
