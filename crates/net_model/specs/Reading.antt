-- Reading the value of one key: the value, or the first rule that it breaks.
use Rattle.std.specs.Prelude.{ℕ, ℤ, pos, negsuc, is_some, if◌then◌else◌, List}
use Rattle.std.specs.Prelude.{[], ◌∷◌, Option, Some, None, Result, Ok, Err}
use Rattle.std.specs.List.{list_all}
use Rattle.toml.specs.Data.{Data, integer, string, array, Items, no_items, item, get, as_table, as_integer}
use Rattle.sim_base.specs.Names.{is_name}
use Rattle.net_model.specs.declared.fault.ModelFault.{ModelFault}
use Rattle.net_model.specs.declared.fault.ModelFault.TheVariants.{Missing, WrongType, OutOfRange, BadName}
use Rattle.net_model.specs.declared.field.Field.{Field}
use Rattle.net_model.specs.declared.reading.Span.{Span}
use Rattle.sim_base.specs.Chain.{◌>>=◌}
use Rattle.net_model.specs.Fields.{key_of}
use Rattle.net_model.specs.Rules.{is_range, is_within}

-- a required key
abbrev pub required_value : ℕ → Field → Option Data → Result Data ModelFault
required_value station field None = Err (Missing station field)
required_value station field (Some d) = Ok d

-- the value of a required key of a table
abbrev pub value_at : ℕ → Field → Data → Result Data ModelFault
value_at station field t = required_value station field (get (key_of field) t)

-- an integer from a range that begins at 0 or above
abbrev pub in_range : ℕ → Field → ℕ → ℕ → ℤ → Result ℕ ModelFault
in_range station field low high (pos n) = if is_within low high n then Ok n else Err (OutOfRange station field)
in_range station field low high (negsuc n) = Err (OutOfRange station field)

-- a value that is such an integer
abbrev pub integer_of : ℕ → Field → ℕ → ℕ → Data → Result ℕ ModelFault
integer_of station field low high (integer z) = in_range station field low high z
integer_of station field low high _ = Err (WrongType station field)

-- an absent key: its default, or the fault
abbrev pub default_or_missing : ℕ → Field → Option ℕ → Result ℕ ModelFault
default_or_missing station field None = Err (Missing station field)
default_or_missing station field (Some n) = Ok n

-- an integer of a range if there is a value, otherwise the default or the fault
abbrev pub found_integer : ℕ → Field → ℕ → ℕ → Option ℕ → Option Data → Result ℕ ModelFault
found_integer station field low high default None = default_or_missing station field default
found_integer station field low high default (Some d) = integer_of station field low high d

-- the integer of a key, or its default if it has one
abbrev pub integer_at : ℕ → Field → ℕ → ℕ → Option ℕ → Data → Result ℕ ModelFault
integer_at station field low high default t = found_integer station field low high default (get (key_of field) t)

-- a value that is a text
abbrev pub text_of : ℕ → Field → Data → Result (List ℕ) ModelFault
text_of station field (string text) = Ok text
text_of station field _ = Err (WrongType station field)

-- the text of a key
abbrev pub text_at : ℕ → Field → Data → Result (List ℕ) ModelFault
text_at station field t = value_at station field t >>= text_of station field

-- a text that is a name
abbrev pub as_name : ℕ → List ℕ → Result (List ℕ) ModelFault
as_name station text = if is_name text then Ok text else Err (BadName station)

-- the name of a key
abbrev pub name_at : ℕ → Field → Data → Result (List ℕ) ModelFault
name_at station field t = text_at station field t >>= as_name station

-- a range of times, from lo to hi, both at most MAX_TIME
abbrev pub span : ℕ → Field → ℕ → ℕ → ℕ → Result Span ModelFault
span station field low lo hi =
    if is_range low lo hi then Ok (record { lo = lo; hi = hi }) else Err (OutOfRange station field)

-- the same for an integer hi, refused below 0
abbrev pub span_to : ℕ → Field → ℕ → ℕ → ℤ → Result Span ModelFault
span_to station field low lo (pos hi) = span station field low lo hi
span_to station field low lo (negsuc n) = Err (OutOfRange station field)

-- and for an integer lo
abbrev pub span_from : ℕ → Field → ℕ → ℤ → ℤ → Result Span ModelFault
span_from station field low (pos lo) hi = span_to station field low lo hi
span_from station field low (negsuc n) hi = Err (OutOfRange station field)

-- and for an hi that may not be an integer, which is a wrong type
abbrev pub span_up_to : ℕ → Field → ℕ → ℤ → Option ℤ → Result Span ModelFault
span_up_to station field low lo (Some hi) = span_from station field low lo hi
span_up_to station field low lo None = Err (WrongType station field)

-- the same for two values, which must be integers
abbrev pub span_of_two : ℕ → Field → ℕ → Option ℤ → Option ℤ → Result Span ModelFault
span_of_two station field low (Some lo) hi = span_up_to station field low lo hi
span_of_two station field low None hi = Err (WrongType station field)

-- the same for a list, which must have two elements
abbrev pub span_of_list : ℕ → Field → ℕ → List Data → Result Span ModelFault
span_of_list station field low (a ∷ (b ∷ [])) = span_of_two station field low (as_integer a) (as_integer b)
span_of_list station field low _ = Err (WrongType station field)

-- the items of an array as a list
abbrev pub list_of : Items → List Data
list_of no_items = []
list_of (item d ds) = d ∷ list_of ds

-- the range of times of a value that is an array of two integers
abbrev pub span_of_value : ℕ → Field → ℕ → Data → Result Span ModelFault
span_of_value station field low (array ds) = span_of_list station field low (list_of ds)
span_of_value station field low _ = Err (WrongType station field)

-- the range of times of a key
abbrev pub span_at : ℕ → Field → ℕ → Data → Result Span ModelFault
span_at station field low t = value_at station field t >>= span_of_value station field low

-- the elements of an array of tables
abbrev pub all_tables : ℕ → Field → List Data → Result (List Data) ModelFault
all_tables station field ds = if list_all (λ d. is_some (as_table d)) ds then Ok ds else Err (WrongType station field)

-- the elements of a value that is such an array
abbrev pub tables_of : ℕ → Field → Data → Result (List Data) ModelFault
tables_of station field (array ds) = all_tables station field (list_of ds)
tables_of station field _ = Err (WrongType station field)
