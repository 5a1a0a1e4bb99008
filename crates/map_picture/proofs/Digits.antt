-- How many digits a number has.
use Rattle.std.proofs.Common.{◌≡◌, ℕ, zero, suc, ◌+◌, ◌<◌, ◌≤◌, ◌^◌, List, [], ◌∷◌, ◌++◌, length, ap, arith, length-append}
use Rattle.std.specs.Prelude.{◌/◌, ◌%◌, decimal}
use Rattle.std.proofs.lemmas.Fmt.{decimal_by_steps, decimal_digit, length-decimal-le}

positive : (j : ℕ) → 0 < 10 ^ j
positive zero = omega arith
positive (suc j) = omega (arith, positive j)

more_digits : (n : ℕ) → n < 2 ^ 64 → (j : ℕ) → 10 ^ j ≤ n → j < length (decimal n)
more_digits n small = decimal_by_steps (λ m ds. (j : ℕ) → 10 ^ j ≤ m → j < length ds) one more n small
  where
    one : (m : ℕ) → m < 10 → (j : ℕ) → 10 ^ j ≤ m → j < length ((48 + m) ∷ [])
    one m l zero a = omega arith
    one m l (suc j) a = absurd (omega (arith, positive j))

    more : (m : ℕ) (ds : List ℕ) → 10 ≤ m → ((j : ℕ) → 10 ^ j ≤ m / 10 → j < length ds) → (j : ℕ) → 10 ^ j ≤ m → j < length (ds ++ ((48 + m % 10) ∷ []))
    more m ds l h zero a = omega (arith, length-append ds ((48 + m % 10) ∷ []))
    more m ds l h (suc j) a = omega (arith, length-append ds ((48 + m % 10) ∷ []), h j (omega arith))

digits_between : (k n : ℕ) → 10 ^ k ≤ n → n < 10 ^ suc k → n < 2 ^ 64 → length (decimal n) ≡ suc k
digits_between k n low high small = omega (arith, more_digits n small k low, length-decimal-le (suc k) n (omega arith) high small)

pub digits_1 : (n : ℕ) → n < 10 → length (decimal n) ≡ 1
digits_1 n low = ap length (decimal_digit n low)

pub digits_2 : (n : ℕ) → 10 ≤ n → n < 100 → length (decimal n) ≡ 2
digits_2 n low high = digits_between 1 n (omega arith) (omega arith) (omega arith)

pub digits_3 : (n : ℕ) → 100 ≤ n → n < 1000 → length (decimal n) ≡ 3
digits_3 n low high = digits_between 2 n (omega arith) (omega arith) (omega arith)

pub digits_4 : (n : ℕ) → 1000 ≤ n → n < 10000 → length (decimal n) ≡ 4
digits_4 n low high = digits_between 3 n (omega arith) (omega arith) (omega arith)

pub digits_5 : (n : ℕ) → 10000 ≤ n → n < 100000 → length (decimal n) ≡ 5
digits_5 n low high = digits_between 4 n (omega arith) (omega arith) (omega arith)

pub digits_6 : (n : ℕ) → 100000 ≤ n → n < 1000000 → length (decimal n) ≡ 6
digits_6 n low high = digits_between 5 n (omega arith) (omega arith) (omega arith)

pub digits_7 : (n : ℕ) → 1000000 ≤ n → n < 10000000 → length (decimal n) ≡ 7
digits_7 n low high = digits_between 6 n (omega arith) (omega arith) (omega arith)

pub digits_8 : (n : ℕ) → 10000000 ≤ n → n < 100000000 → length (decimal n) ≡ 8
digits_8 n low high = digits_between 7 n (omega arith) (omega arith) (omega arith)

pub digits_9 : (n : ℕ) → 100000000 ≤ n → n < 1000000000 → length (decimal n) ≡ 9
digits_9 n low high = digits_between 8 n (omega arith) (omega arith) (omega arith)

pub digits_10 : (n : ℕ) → 1000000000 ≤ n → n < 2 ^ 32 → length (decimal n) ≡ 10
digits_10 n low high = digits_between 9 n (omega arith) (omega arith) (omega arith)

-- the count of the digits of a number of 32 bits
pub ruleset digits = (digits_1, digits_2, digits_3, digits_4, digits_5, digits_6, digits_7, digits_8, digits_9, digits_10)
