-- The text of a number is read as that number.
use Rattle.std.proofs.Common.{◌≡◌, ℕ, ◌<◌, ◌≤◌, ◌^◌, ◌⊎◌, inl, inr, true, List, []}
use Rattle.std.proofs.Common.{◌∷◌, length, get_or, refl, ap, arith, zero, suc, Ok, Some, decimal}
use Rattle.std.specs.List.{list_all}
use Rattle.std.specs.Str.Parse.{digits_value}
use Rattle.std.proofs.lemmas.Fmt.{digits_decimal, digits_value-decimal, decimal_digit}
use Rattle.std.proofs.lemmas.Fmt.{first_decimal, decimal_nonempty, length-decimal-le}
use Rattle.std.proofs.lemmas.Bool.{and_parts}
use Rattle.std.proofs.lemmas.Bool.Decides.{nat_tests}
use Rattle.sim_base.specs.Names.{is_digit}
use Rattle.decision_script.specs.Lines.{has_number_form, number}
use Rattle.std.specs.Option.{ok_or}
use Rattle.sim_base.proofs.Digits.{digit_numerals}
use Rattle.sim_base.proofs.ListLaws.{list_all-weaker}
use Rattle.decision_script.specs.declared.fault.LineFault.TheVariants.{BadNumber}
use Rattle.decision_script.specs.declared.number.TheConstants.{MAX_NUMBER}
use Rattle.decision_script.specs.Sentences.{word_number}
use Rattle.decision_script.proofs.JoinedWords.{is_letter, IsWord}

-- ---- decimal

-- digits of which the first is not 0 have the form of a number
has_number_form-digits : (ds : List ℕ) → list_all is_digit ds ≡ true → 0 < length ds
    → (length ds ≡ 1) ⊎ (48 < get_or ds 0 0) → has_number_form ds ≡ true
has_number_form-digits [] all some first = absurd (omega arith)
has_number_form-digits (d ∷ []) all some first = (and_parts (is_digit d) true all).0
has_number_form-digits (d ∷ e ∷ ds) all some first =
    let (digit, rest) = and_parts (is_digit d) (list_all is_digit (e ∷ ds)) all in
    let lead : 48 < d = elim first [ inl h ↦ absurd (omega arith) | inr h ↦ h ] in
    grind (arith, nat_tests)

-- the text of a number below 2 ^ 64 has the form of a number
pub has_number_form-decimal : (n : ℕ) → n < 2 ^ 64 → has_number_form (decimal n) ≡ true
has_number_form-decimal zero h =
    has_number_form-digits (decimal 0) (digits_decimal digit_numerals 0 h) (decimal_nonempty 0 h)
    (inl (ap length (decimal_digit 0 (omega arith))))
has_number_form-decimal (suc n) h =
    has_number_form-digits (decimal (suc n)) (digits_decimal digit_numerals (suc n) h) (decimal_nonempty (suc n) h)
    (inr (first_decimal (suc n) (omega arith) h))

-- ---- number and word_number

-- the text of a number that a script may have is read as that number
number-decimal : (n : ℕ) → n ≤ MAX_NUMBER → number (decimal n) ≡ Some n
number-decimal n h =
    let wide : n < 2 ^ 64 = omega arith in
    let form = has_number_form-decimal n wide in
    let value : digits_value 10 (decimal n) ≡ n = digits_value-decimal digit_numerals n wide in
    let short : length (decimal n) ≤ 10 = length-decimal-le 10 n (omega arith) (omega arith) wide in
    rw (form, value) (grind (arith, nat_tests))

-- and it is so if it is a word of a line
pub word_number-decimal : (n : ℕ) → n ≤ MAX_NUMBER → word_number (decimal n) ≡ Ok n
word_number-decimal n h = ap (λ o. ok_or o BadNumber) (number-decimal n h)

-- ---- IsWord

-- a digit is a letter
digit_is_letter : (d : ℕ) → is_digit d ≡ true → is_letter d ≡ true
digit_is_letter d h = grind (arith, nat_tests)

-- the text of a number below 2 ^ 32 is a word
pub decimal_is_word : (n : ℕ) → n < 2 ^ 32 → IsWord (decimal n)
decimal_is_word n h =
    let wide : n < 2 ^ 64 = omega arith in
    let some = decimal_nonempty n wide in
    let short = length-decimal-le 10 n (omega arith) (omega arith) wide in
    record {
      nonempty = grind (arith, nat_tests);
      letters = list_all-weaker is_digit is_letter digit_is_letter (decimal n) (digits_decimal digit_numerals n wide);
      length_max = grind (arith, nat_tests);
    }
