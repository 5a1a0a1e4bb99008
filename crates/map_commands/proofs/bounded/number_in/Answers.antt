use Rattle.std.proofs.Common.{◌≡◌, ◌∙◌, sym, ap, true, false, ℤ, FitsSigned, subst}
use Rattle.std.specs.Prelude.{int_le}
use Rattle.std.specs.Int.{w16}
use Rattle.std.specs.Fmt.{signed_decimal}
use Rattle.lump_records.specs.Drawing.{IsBetween}
use Rattle.map_words.specs.Words.{numeral_value}
use Rattle.map_words.proofs.NumeralWords.{between, canonical, clamped-same, compared-high, compared-low, converted, is-between}
use Rattle.map_commands.proofs.NumberFaults.{fault-none, fault-out}
use Rattle.map_commands.proofs.bounded.number_in.Goals as goal

pub returns-in-Some-clause-found : goal.returns-in-Some-clause-found
returns-in-Some-clause-found c =
    let w = c.args.word.now in
    let n = c.in-Some.n in
    let v = numeral_value w in
    let is = c.in-Some.ensures.value in
    let least = compared-low v n c.args.low c.from.result true is c.ranges.low c.from.ensures c.if-from-n.true in
    let most = compared-high v n c.args.high c.from-then-from-n.result true is c.ranges.high c.from-then-from-n.ensures c.if-n-from.true in
    let fits = between c.args.low n c.args.high c.ranges.low c.ranges.high least most in
    let value : n ≡ v = is ∙ clamped-same v (subst (FitsSigned w16) is fits) in
    let same = converted n fits in (
      sym (same ∙ value),
      ap signed_decimal (same ∙ value) ∙ canonical w c.in-Some.ensures.numeral (subst (FitsSigned w16) value fits),
      subst (IsBetween c.args.low c.args.high) (sym same) (is-between c.args.low n c.args.high least most),
    )

pub returns-in-Some-clause-fault : goal.returns-in-Some-clause-fault
returns-in-Some-clause-fault c =
    let w = c.args.word.now in
    let n = c.in-Some.n in
    let v = numeral_value w in
    let is = c.in-Some.ensures.value in
    let least = compared-low v n c.args.low c.from.result true is c.ranges.low c.from.ensures c.if-from-n.true in
    let most = compared-high v n c.args.high c.from-then-from-n.result true is c.ranges.high c.from-then-from-n.ensures c.if-n-from.true in
    let fits = between c.args.low n c.args.high c.ranges.low c.ranges.high least most in
    let value : n ≡ v = is ∙ clamped-same v (subst (FitsSigned w16) is fits) in
    fault-none w c.args.low c.args.high c.in-Some.ensures.numeral (subst (λ (z : ℤ). int_le c.args.low z ≡ true) value least)
    (subst (λ (z : ℤ). int_le z c.args.high ≡ true) value most)

pub returns-in-Some-2-clause-fault : goal.returns-in-Some-2-clause-fault
returns-in-Some-2-clause-fault c =
    let w = c.args.word.now in
    let n = c.in-Some.n in
    let is = c.in-Some.ensures.value in
    let above = compared-high (numeral_value w) n c.args.high c.from-then-from-n.result false is c.ranges.high c.from-then-from-n.ensures c.if-n-from.false in
    fault-out w c.args.low c.args.high c.in-Some.ensures.numeral c.ranges.low c.ranges.high
    (λ p q. let never : true ≡ false = sym q ∙ ap (λ (z : ℤ). int_le z c.args.high) (sym is) ∙ above in cc never)
