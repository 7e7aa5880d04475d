-- The digits of a number.
use Rattle.std.proofs.Common.{◌≡◌, ℕ, ◌+◌, ◌*◌, ◌-◌, ◌<◌, ◌≤◌, ◌^◌, List, []}
use Rattle.std.proofs.Common.{◌∷◌, length, take, true, get_or, arith, zero, suc, refl, add-one}
use Rattle.std.proofs.Math.Nat.{pow-succ'}
use Rattle.std.specs.List.{list_all}
use Rattle.std.specs.Char.{digit_value}
use Rattle.std.specs.Str.Parse.{digits_value}
use Rattle.std.proofs.lemmas.Int.Digits.{digits_value_more}
use Rattle.std.proofs.lemmas.Bool.{and_parts}
use Rattle.std.proofs.lemmas.Bool.Decides.{nat_tests}
use Rattle.std.proofs.lemmas.Str.Parse.{IsDigitsTest, IsNumeralModel, numerals_by_value}
use Rattle.sim_base.specs.Names.{is_digit}

-- ---- digit_value

-- the value of a digit is its byte less 48
digit_value-digit : (c : ℕ) → is_digit c ≡ true → digit_value c ≡ c - 48
digit_value-digit c h = grind (arith, nat_tests)

-- ---- is_digit

-- if all bytes are digits, the one at each place is a digit
digits_at : (ds : List ℕ) (i : ℕ) → list_all is_digit ds ≡ true → i < length ds → is_digit (get_or ds i 0) ≡ true
digits_at [] i h b = absurd (omega arith)
digits_at (d ∷ ds) zero h b = (and_parts (is_digit d) (list_all is_digit ds) h).0
digits_at (d ∷ ds) (suc i) h b = digits_at ds i (and_parts (is_digit d) (list_all is_digit ds) h).1 (omega arith)

-- ---- digit_numerals

-- the test of all digits is one that numerals pass
digits_test : IsDigitsTest (λ ds. list_all is_digit ds ≡ true)
digits_test = record {
  empty = refl;
  parts = λ c cs h. let (digit, rest) = and_parts (is_digit c) (list_all is_digit cs) h in
      (grind (arith, nat_tests), rest);
  more = λ c cs range rest. grind (arith, nat_tests);
}

-- lists of digits are numerals
pub digit_numerals : IsNumeralModel (λ ds. list_all is_digit ds ≡ true) (digits_value 10)
digit_numerals = numerals_by_value _ digits_test

-- ---- digits_value

-- one digit more makes the value ten times as much plus the digit, and it stays below the next power of ten
pub value_more : (ds : List ℕ) (i n : ℕ) → list_all is_digit ds ≡ true → i < length ds
    → n ≡ digits_value 10 (take i ds) → n < 10 ^ i
    → (n * 10 + (get_or ds i 0 - 48) ≡ digits_value 10 (take (i + 1) ds))
    × (n * 10 + (get_or ds i 0 - 48) < 10 ^ (i + 1))
value_more ds i n all b same fits =
    let digit = digits_at ds i all b in
    let is = digit_value-digit (get_or ds i 0) digit in
    let more = digits_value_more 10 ds i b in
    let tenth : 10 ^ (i + 1) ≡ 10 * 10 ^ i = rw (add-one, pow-succ') refl in
    let small : get_or ds i 0 ≤ 57 = grind (arith, nat_tests) in
    (rw (more, is, ← same) refl, omega arith)
