-- The number of digits of a number, from its tenth part.
use Rattle.std.proofs.Common.{◌≡◌, ℕ, zero, suc, ◌+◌, ◌*◌, ◌/◌, ◌^◌, ◌<◌, ◌≤◌, length, decimal, ap, arith}
use Rattle.itoa.proofs.Decimal.{length_four, length_one, length_step_wide}

-- ---- length (decimal n), from the power of ten below n

-- a number from a power of ten to the next one has one digit more than the power says
pub digits_by_power : (k n : ℕ) → 10 ^ k ≤ n → n < 10 * 10 ^ k → n < 2 ^ 64 → length (decimal n) ≡ k + 1
digits_by_power zero n l h _ = length_one n (omega arith)
digits_by_power (suc k) n l h fits =
    let some : 1 ≤ 10 ^ k = one k in
    let a = length_step_wide n (omega (arith, some)) (omega arith) in
    let b = digits_by_power k (n / 10) (omega arith) (omega arith) (omega arith) in
    omega (arith, a, b)
  where
    one : (j : ℕ) → 1 ≤ 10 ^ j
    one zero = omega arith
    one (suc j) = let r = one j in omega (arith, r)

-- ---- length (decimal n), from n without its last five or ten digits

-- five digits more than n without its last five
five_more : (n : ℕ) → 100000 ≤ n → n < 2 ^ 64 → length (decimal n) ≡ 5 + length (decimal (n / 100000))
five_more n l h =
    let a = length_four n (omega arith) h in
    let b = length_step_wide (n / 10000) (omega arith) (omega arith) in
    let same : n / 10000 / 10 ≡ n / 100000 = omega arith in
    let f = ap (λ m. length (decimal m)) same in
    omega (arith, a, b, f)

-- ten digits more than n without its last ten
pub ten_more : (n : ℕ) → 10000000000 ≤ n → n < 2 ^ 64 → length (decimal n) ≡ 10 + length (decimal (n / 10000000000))
ten_more n l h =
    let a = five_more n (omega arith) h in
    let b = five_more (n / 100000) (omega arith) (omega arith) in
    let same : n / 100000 / 100000 ≡ n / 10000000000 = omega arith in
    let f = ap (λ m. length (decimal m)) same in
    omega (arith, a, b, f)
