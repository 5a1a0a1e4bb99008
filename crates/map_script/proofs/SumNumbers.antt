-- The numbers of a sum.
use Rattle.std.proofs.Common.{◌≡◌, ℕ, ◌-◌, ◌<◌, ◌≤◌, ◌^◌, cond, sym, ◌∙◌, ap, arith, Result, Ok, Err}
use Rattle.std.specs.Prelude.{ℤ, pos, min}
use Rattle.map_script.proofs.Leasts.{ltb_no, ltb_yes}
use Rattle.map_script.specs.Reckoned.{fitted}
use Rattle.map_script.specs.declared.error.DrawError.{DrawError}
use Rattle.map_script.specs.declared.error.DrawError.TheVariants.{TooGreat}

-- the number of digits, that fits
pub natural_fits : (v n : ℕ) → n ≡ min (2 ^ 64 - 1) v → n ≤ 9223372036854775807 → ◌≡◌ {A = Result ℤ DrawError} (Ok (pos n)) (fitted (pos v))
natural_fits v n is few =
    let same : n ≡ v = omega (arith, is, few) in
    let below : v < 2 ^ 63 = omega (arith, is, few) in
    ap (λ k. Ok (pos k)) same ∙ sym (ap (λ t. cond t (Ok (pos v)) (Err TooGreat)) (ltb_yes v (2 ^ 63) below))

-- the number of digits, that doesn't
pub natural_misfits : (v n : ℕ) → n ≡ min (2 ^ 64 - 1) v → 9223372036854775807 < n → ◌≡◌ {A = Result ℤ DrawError} (Err TooGreat) (fitted (pos v))
natural_misfits v n is many =
    let above : 2 ^ 63 ≤ v = omega (arith, is, many) in
    sym (ap (λ t. cond t (Ok (pos v)) (Err TooGreat)) (ltb_no v (2 ^ 63) above))
