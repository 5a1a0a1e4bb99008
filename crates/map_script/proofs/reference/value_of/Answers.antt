use Rattle.std.proofs.Common.{◌≡◌, ◌+◌, ◌-◌, ◌^◌, ◌∙◌, ap, sym, arith, drop, get_or}
use Rattle.std.specs.Prelude.{min}
use Rattle.std.specs.List.{fold}
use Rattle.std.proofs.lemmas.List.{at_drop_more}
use Rattle.map_script.proofs.Replacing.{least_fold, with_digit}
use Rattle.map_script.proofs.reference.value_of.Goals as goal

pub loop-b-preserved : goal.loop-b-preserved
loop-b-preserved c =
    let ds = c.args.digits.now in
    let i = c.loop-b.b-index in
    let d = get_or ds i 0 in
    let is : c.with_digit-value.result ≡ min (2 ^ 64 - 1) (with_digit c.loop-b.value d) = c.with_digit-value.ensures in (
      ap (λ n. min (2 ^ 64 - 1) (fold with_digit n (drop (i + 1) ds))) is
          ∙ least_fold (2 ^ 64 - 1) (with_digit c.loop-b.value d) (drop (i + 1) ds)
          ∙ sym (ap (min (2 ^ 64 - 1)) (at_drop_more (fold with_digit c.loop-b.value) ds i 0 c.loop-b-test.true))
          ∙ c.loop-b.invariant.0,
      omega (arith, is),
    )
