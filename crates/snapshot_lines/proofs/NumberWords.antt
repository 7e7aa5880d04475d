-- Which words are numbers.
use Rattle.std.proofs.Common.{◌≡◌, ℕ, ◌<◌, ◌≤◌, ◌^◌, Bool, true, false, List, [], ◌∷◌, length, get_or}
use Rattle.std.proofs.Common.{refl, sym, arith, subst, decimal, nat_le}
use Rattle.std.specs.List.{list_all}
use Rattle.std.specs.Str.Parse.{digits_value}
use Rattle.std.proofs.lemmas.Bool.{and_parts, and_from, leb-true, le-leb}
use Rattle.std.proofs.lemmas.Bool.Decides.{nat_tests}
use Rattle.std.proofs.lemmas.Fmt.{decimal-digits_value}
use Rattle.std.proofs.lemmas.Fmt.{length-decimal-le}
use Rattle.std.proofs.lemmas.Slice.Eq.{bytes_eq-Decides}
use Rattle.sim_base.specs.Names.{is_digit, is_leading}
use Rattle.sim_base.proofs.Digits.{digit_numerals}
use Rattle.decision_script.specs.Lines.{has_number_form}
use Rattle.decision_script.proofs.Numbers.{has_number_form-decimal}
use Rattle.snapshot_lines.specs.Forms.{is_number}
use Rattle.snapshot_lines.specs.declared.numbers.TheConstants.{MAX_NUMBER_LEN}

-- ---- has_number_form

-- a word of this form is digits
pub digits_of_form : (w : List ℕ) → has_number_form w ≡ true → list_all is_digit w ≡ true
digits_of_form [] form = absurd (cc)
digits_of_form (d ∷ []) form = and_from (is_digit d) true form refl
digits_of_form (d ∷ e ∷ ds) form =
    let parts = and_parts (is_leading d) (list_all is_digit (e ∷ ds)) form in
    and_from (is_digit d) (list_all is_digit (e ∷ ds)) (grind (arith, nat_tests)) parts.1

has_number_form-nonempty : (w : List ℕ) → has_number_form w ≡ true → 0 < length w
has_number_form-nonempty [] form = absurd (cc)
has_number_form-nonempty (d ∷ ds) form = omega arith

has_number_form-leading : (w : List ℕ) → has_number_form w ≡ true → get_or w 0 0 ≡ 48 → length w ≡ 1
has_number_form-leading [] form zero_first = absurd (cc)
has_number_form-leading (d ∷ []) form zero_first = refl
has_number_form-leading (d ∷ e ∷ ds) form zero_first =
    let parts = and_parts (is_leading d) (list_all is_digit (e ∷ ds)) form in
    let lead : 49 ≤ d = grind (arith, nat_tests) in
    absurd (omega (arith, lead, zero_first))

-- ---- is_number

-- a number of 64 bits has the form and at most 20 digits
number_is : (most : ℕ) (w : List ℕ) → most < 2 ^ 64 → is_number most w ≡ true
    → (has_number_form w ≡ true) × (length w ≤ MAX_NUMBER_LEN) × (digits_value 10 w ≤ most)
number_is most w small e =
    let parts = and_parts (nat_le (digits_value 10 w) most) _ e in
    let less = leb-true (digits_value 10 w) most parts.0 in
    let same = (bytes_eq-Decides w (decimal (digits_value 10 w))).0 parts.1 in
    let fits : digits_value 10 w < 2 ^ 64 = omega (arith, less, small) in
    let short : length (decimal (digits_value 10 w)) ≤ 20 =
    length-decimal-le 20 (digits_value 10 w) (omega arith) (omega (arith, fits)) fits in (
      subst (λ (v : List ℕ). has_number_form v ≡ true) (sym same) (has_number_form-decimal (digits_value 10 w) fits),
      subst (λ (v : List ℕ). length v ≤ MAX_NUMBER_LEN) (sym same) short,
      less,
    )

-- every word of this form is a number, if its value is at most `most`
pub number_if_fits : (most : ℕ) (w : List ℕ) → most < 2 ^ 64 → has_number_form w ≡ true → digits_value 10 w ≤ most
    → is_number most w ≡ true
number_if_fits most w small form less =
    let same = decimal-digits_value digit_numerals w (digits_of_form w form) (has_number_form-nonempty w form)
    (has_number_form-leading w form) (omega (arith, less, small)) in
    and_from (nat_le (digits_value 10 w) most) _ (le-leb (digits_value 10 w) most less)
    ((bytes_eq-Decides w (decimal (digits_value 10 w))).1 (sym same))

-- any other word is not
not_true : (b : Bool) → (b ≡ true → ⊥) → b ≡ false
not_true true contrary = absurd (contrary refl)
not_true false contrary = refl

pub no_number_by_form : (most : ℕ) (w : List ℕ) → most < 2 ^ 64 → has_number_form w ≡ false → is_number most w ≡ false
no_number_by_form most w small none =
    not_true (is_number most w) (λ e. let form = (number_is most w small e).0 in absurd (cc))

pub no_number_by_length : (most : ℕ) (w : List ℕ) → most < 2 ^ 64 → MAX_NUMBER_LEN < length w → is_number most w ≡ false
no_number_by_length most w small long =
    not_true (is_number most w) (λ e. let short = (number_is most w small e).1 in absurd (omega (arith, short, long)))

pub no_number_by_value : (most : ℕ) (w : List ℕ) → most < 2 ^ 64 → most < digits_value 10 w → is_number most w ≡ false
no_number_by_value most w small great =
    not_true (is_number most w) (λ e. let less = (number_is most w small e).2 in absurd (omega (arith, less, great)))
