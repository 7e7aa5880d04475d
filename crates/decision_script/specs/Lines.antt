-- The lines of a text, the words of a line, and the number that a word spells.
use Rattle.std.specs.Prelude.{◌||◌, ◌==◌, ◌&&◌, ℕ, Bool, false, not, nat_le, nat_lt, if◌then◌else◌}
use Rattle.std.specs.Prelude.{List, [], ◌∷◌, length, map, filter, Option, Some, None}
use Rattle.std.specs.List.{slice_split, list_all}
use Rattle.std.specs.Str.Lines.{strip_carriage_return}
use Rattle.std.specs.Str.Parse.{digits_value}
use Rattle.sim_base.specs.Names.{is_digit, is_leading}
use Rattle.sim_base.specs.declared.number.TheConstants.{MAX_DIGITS}
use Rattle.decision_script.specs.declared.number.TheConstants.{MAX_NUMBER}

-- a line feed
abbrev pub is_newline : ℕ → Bool
is_newline b = b == 10

-- a space or a tab
abbrev pub is_blank : ℕ → Bool
is_blank b = b == 32 || b == 9

-- one byte or more
abbrev pub has_bytes : List ℕ → Bool
has_bytes bs = not (length bs == 0)

-- the parts between line feeds, each without the one carriage return at its end. The part after the last line feed
-- counts too, and means nothing if it is empty
abbrev pub lines : List ℕ → List (List ℕ)
lines text = map strip_carriage_return (slice_split is_newline text)

-- the lines of the rest of a text; none if no rest is left
abbrev pub lines_left : Option (List ℕ) → List (List ℕ)
lines_left None = []
lines_left (Some rest) = lines rest

-- the lines that are left of a text, and the number of the first
pub record LinesLeft : Type 0 where
  pub line : ℕ
  pub texts : List (List ℕ)

-- the runs of nonblank bytes
abbrev pub words : List ℕ → List (List ℕ)
words line = filter has_bytes (slice_split is_blank line)

-- no byte of 128 or more
abbrev pub is_ascii : List ℕ → Bool
is_ascii line = list_all (λ b. nat_lt b 128) line

-- a digit, or several of which the first is not 0
abbrev pub has_number_form : List ℕ → Bool
has_number_form [] = false
has_number_form (d ∷ []) = is_digit d
has_number_form (d ∷ e ∷ ds) = is_leading d && list_all is_digit (e ∷ ds)

-- the number of one to ten digits without a leading zero, at most MAX_NUMBER
abbrev pub number : List ℕ → Option ℕ
number word =
    if (has_number_form word && nat_le (length word) MAX_DIGITS) && nat_le (digits_value 10 word) MAX_NUMBER
    then Some (digits_value 10 word) else None
