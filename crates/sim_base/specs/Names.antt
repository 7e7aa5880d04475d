-- What a name is, and when names are distinct.
use Rattle.std.specs.Prelude.{◌≡◌, ◌&&◌, ◌||◌, ◌==◌, ℕ, Bool, false, nat_le, nat_lt, List, [], ◌∷◌, length}
use Rattle.std.specs.List.{list_all, AllPairs}
use Rattle.std.specs.Str.{bytes_eq}
use Rattle.sim_base.specs.declared.name.TheConstants.{MAX_NAME_LEN}

-- whether a byte is one of a to z
abbrev pub is_lower : ℕ → Bool
is_lower b = nat_le 97 b && nat_le b 122

-- whether it is a digit
abbrev pub is_digit : ℕ → Bool
is_digit b = nat_le 48 b && nat_le b 57

-- whether it may lead a number of several digits: a digit other than 0
abbrev pub is_leading : ℕ → Bool
is_leading b = nat_le 49 b && nat_le b 57

-- whether a name may contain it: a to z, digits and _
abbrev pub is_name_byte : ℕ → Bool
is_name_byte b = (is_lower b || is_digit b) || (b == 95)

-- 1 to MAX_NAME_LEN bytes of a to z, digits and _, the first of a to z
abbrev pub is_name : List ℕ → Bool
is_name [] = false
is_name (b ∷ bs) = (is_lower b && list_all is_name_byte bs) && nat_lt (length bs) MAX_NAME_LEN

-- no two of the names are equal
abbrev pub AreDistinct : List (List ℕ) → Type 0
AreDistinct names = AllPairs (λ a b. bytes_eq a b ≡ false) names
