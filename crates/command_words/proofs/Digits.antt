-- The digits of a number.
use Rattle.std.proofs.Common.{◌≡◌, ℕ, List, [], ◌∷◌, true, arith, refl}
use Rattle.std.specs.List.{list_all}
use Rattle.std.proofs.lemmas.Bool.{and_parts}
use Rattle.std.proofs.lemmas.Bool.Decides.{nat_tests}
use Rattle.sim_base.specs.Names.{is_digit, is_leading}
use Rattle.command_words.specs.Numbers.{is_number}

-- a number is written in digits
pub number_digits : (word : List ℕ) → is_number word ≡ true → list_all is_digit word ≡ true
number_digits [] h = grind arith
number_digits (d ∷ []) h = rw h refl
number_digits (d ∷ e ∷ ds) h =
    let parts = and_parts (is_leading d) (list_all is_digit (e ∷ ds)) h in
    let lead : is_digit d ≡ true = grind (arith, nat_tests) in
    rw (lead, parts.1) refl
