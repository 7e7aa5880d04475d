-- The rules of a command line, word by word from the left.
use Rattle.std.specs.Prelude.{◌==◌, ℕ, Bool, false, nat_eq, codes, if◌then◌else◌, List, [], ◌∷◌, ◌++◌, length}
use Rattle.std.specs.Prelude.{drop, Option, Some, None, is_some, option_and_then}
use Rattle.std.specs.List.{starts_with}
use Rattle.std.specs.Str.{bytes_eq}
use Rattle.command_words.specs.Values.{GivenView}

-- the options
pub data OptionName : Type 0 where
  workers : OptionName
  clone : OptionName
  until : OptionName

-- the word begins with `-`, and is more than `-` itself
abbrev pub is_dashed : List ℕ → Bool
is_dashed [] = false
is_dashed (b ∷ []) = false
is_dashed (b ∷ c ∷ rest) = b == 45

-- the kinds of such words, where no option waits for its value and before any `--`
pub data DashedWord : Type 0 where
  -- `--`: the options end here
  ending : DashedWord
  -- an option's name after `--`: the next word is the value
  bare_option : OptionName → DashedWord
  -- `--NAME=V` of an option: V is the value
  option_with_value : OptionName → List ℕ → DashedWord
  -- anything else; names are not abbreviated
  unknown : DashedWord

-- the name of an option
abbrev pub option_text : OptionName → List ℕ
option_text workers = codes "workers"
option_text clone = codes "clone"
option_text until = codes "until"

-- the word that names an option
abbrev pub option_word : OptionName → List ℕ
option_word name = codes "--" ++ option_text name

-- the kind of a word if it may name this option, with or without its value in the word; `other` otherwise
abbrev pub option_or : OptionName → List ℕ → DashedWord → DashedWord
option_or name word other =
    if bytes_eq word (option_word name) then bare_option name
    else if starts_with nat_eq word (option_word name ++ codes "=")
    then option_with_value name (drop (length (option_word name ++ codes "=")) word)
    else other

-- the kind of a word with a dash: `--`, an option, or unknown
abbrev pub dashed_word : List ℕ → DashedWord
dashed_word word =
    if bytes_eq word (codes "--") then ending
    else option_or workers word (option_or clone word (option_or until word unknown))

-- one more value, None if the option has one already: each may occur once
abbrev pub with_value : OptionName → List ℕ → GivenView → Option GivenView
with_value workers value v = if is_some v.workers then None else Some (record v { workers = Some value })
with_value clone value v = if is_some v.clone then None else Some (record v { clone = Some value })
with_value until value v = if is_some v.until then None else Some (record v { until = Some value })

-- more positionals, after the present ones
abbrev pub with_positionals : List (List ℕ) → GivenView → GivenView
with_positionals words v = record v { positionals = v.positionals ++ words }

-- after a word that begins with `-`; `read_on` reads the following words
abbrev pub after_dashed : DashedWord → List (List ℕ) → (Option OptionName → GivenView → Option GivenView) → GivenView
    → Option GivenView
after_dashed ending rest read_on v = Some (with_positionals rest v)
after_dashed (bare_option name) rest read_on v = read_on (Some name) v
after_dashed (option_with_value name value) rest read_on v = option_and_then (read_on None) (with_value name value v)
after_dashed unknown rest read_on v = None

-- Reads the words from here on, after those before them had the values v. If no option waits for its value, a word
-- without a dash is a positional. Otherwise the next word is the value, unless it begins with `-` and is more than `-`
-- itself.
abbrev pub read : List (List ℕ) → Option OptionName → GivenView → Option GivenView
read [] None v = Some v
read [] (Some due) v = None
read (word ∷ rest) None v =
    if is_dashed word then after_dashed (dashed_word word) rest (read rest) v
    else read rest None (with_positionals (word ∷ []) v)
read (word ∷ rest) (Some due) v =
    if is_dashed word then None else option_and_then (read rest None) (with_value due word v)

-- no options and no positionals
abbrev pub no_values : GivenView
no_values = record { workers = None; clone = None; until = None; positionals = [] }

-- the values of the words, None if they break a rule
unfoldable pub values : List (List ℕ) → Option GivenView
values words = read words None no_values
