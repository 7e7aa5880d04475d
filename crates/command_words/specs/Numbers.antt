-- The numbers on a command line.
use Rattle.std.specs.Prelude.{◌&&◌, ℕ, Bool, false, nat_le, if◌then◌else◌, List, [], ◌∷◌, length, Option, Some, None}
use Rattle.std.specs.List.{list_all}
use Rattle.std.specs.Str.Parse.{digits_value}
use Rattle.sim_base.specs.Names.{is_digit, is_leading}
use Rattle.sim_base.specs.declared.number.TheConstants.{MAX_DIGITS}

-- digits; the first of several is not 0
abbrev pub is_number : List ℕ → Bool
is_number [] = false
is_number (d ∷ []) = is_digit d
is_number (d ∷ e ∷ ds) = is_leading d && list_all is_digit (e ∷ ds)

-- the number from `least` to `most` that the word writes in decimal, without a leading zero or sign; `most` has at
-- most `MAX_DIGITS` digits
abbrev pub number_in : ℕ → ℕ → List ℕ → Option ℕ
number_in least most word =
    if (is_number word && nat_le (length word) MAX_DIGITS) &&
    (nat_le least (digits_value 10 word) && nat_le (digits_value 10 word) most)
    then Some (digits_value 10 word)
    else None
