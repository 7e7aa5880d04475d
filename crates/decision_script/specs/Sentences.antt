-- The meaning of a line, from its words.
use Rattle.std.specs.Prelude.{◌&&◌, ◌==◌, ℕ, Bool, true, false, codes, if◌then◌else◌, List, [], ◌∷◌, length}
use Rattle.std.specs.Prelude.{Result, Ok, Err, Option, Some, None}
use Rattle.std.specs.Option.{ok_or}
use Rattle.std.specs.Str.{bytes_eq}
use Rattle.sim_base.specs.Chain.{◌>>=◌}
use Rattle.sim_base.specs.Names.{is_name}
use Rattle.sim_base.specs.Params.{param_values, param_of_word}
use Rattle.sim_base.specs.declared.decision.Decision.TheVariants.{Fork, Set, End}
use Rattle.sim_base.specs.declared.message.Change.{Change}
use Rattle.sim_base.specs.declared.message.Param.{Param}
use Rattle.decision_script.specs.declared.item.Act.TheVariants.{Decide, Look}
use Rattle.decision_script.specs.declared.line.ParsedLine.{ParsedLine}
use Rattle.decision_script.specs.declared.line.ParsedLine.TheVariants.{Nothing, Section, Action}
use Rattle.decision_script.specs.declared.fault.LineFault.{LineFault}
use Rattle.decision_script.specs.declared.fault.LineFault.TheVariants.{NotAscii, BadLine, BadNumber}
use Rattle.decision_script.specs.Lines.{number, words, is_ascii}

-- the result of a line that has the form; any other line is bad
abbrev pub where_form : {A : Type 0} → Bool → Result A LineFault → Result A LineFault
where_form true r = r
where_form false r = Err BadLine

-- the number that the word spells, if it spells one
abbrev pub word_number : List ℕ → Result ℕ LineFault
word_number word = ok_or (number word) BadNumber

-- a parameter that takes `count` values
abbrev pub with_values : Option Param → ℕ → Result Param LineFault
with_values (Some param) count = where_form (param_values param == count) (Ok param)
with_values None count = Err BadLine

-- the parameter with this keyword, if it takes `count` values
abbrev pub param_of : List ℕ → ℕ → Result Param LineFault
param_of word count = with_values (param_of_word word) count

-- the value of a parameter that takes one
unfoldable pub one_value : Param → List ℕ → Result Change LineFault
one_value param a = do
  x ← word_number a
  Ok (record { param = param; a = x; b = 0 })

-- the values of a parameter that takes two
unfoldable pub two_values : Param → List ℕ → List ℕ → Result Change LineFault
two_values param a b = do
  x ← word_number a
  y ← word_number b
  Ok (record { param = param; a = x; b = y })

-- the change of a parameter to these values; there must be one or two
abbrev pub change_of : Param → List (List ℕ) → Result Change LineFault
change_of param (a ∷ []) = one_value param a
change_of param (a ∷ b ∷ []) = two_values param a b
change_of param _ = Err BadLine

-- analyst NAME
unfoldable pub section : List ℕ → Result ParsedLine LineFault
section name = where_form (is_name name) (Ok (Section name))

-- look CLONE STATION
unfoldable pub look : List ℕ → List ℕ → Result ParsedLine LineFault
look who station = where_form (is_name who && is_name station) (Ok (Action (Look who station)))

-- fork NEW from OLD
unfoldable pub fork : List ℕ → List ℕ → List ℕ → Result ParsedLine LineFault
fork new keyword old =
    where_form ((bytes_eq keyword (codes "from") && is_name new) && is_name old) (Ok (Action (Decide (Fork new old))))

-- end CLONE at TIME
unfoldable pub end : List ℕ → List ℕ → List ℕ → Result ParsedLine LineFault
end who keyword time = where_form (bytes_eq keyword (codes "at") && is_name who) (do
  at ← word_number time
  Ok (Action (Decide (End who at))))

-- set CLONE at TIME STATION PARAMETER VALUES
unfoldable pub set : List ℕ → List ℕ → List ℕ → List ℕ → List ℕ → List (List ℕ) → Result ParsedLine LineFault
set who keyword time station word values = where_form ((bytes_eq keyword (codes "at") && is_name who) && is_name
    station) (do
      param ← param_of word (length values)
      at ← word_number time
      change ← change_of param values
      Ok (Action (Decide (Set who at station change))))

-- what follows each first word; analyst: a name
abbrev pub after_analyst : List (List ℕ) → Result ParsedLine LineFault
after_analyst (name ∷ []) = section name
after_analyst _ = Err BadLine

-- look: a clone and a station
abbrev pub after_look : List (List ℕ) → Result ParsedLine LineFault
after_look (who ∷ station ∷ []) = look who station
after_look _ = Err BadLine

-- fork: a new name, a keyword, and an old name
abbrev pub after_fork : List (List ℕ) → Result ParsedLine LineFault
after_fork (new ∷ keyword ∷ old ∷ []) = fork new keyword old
after_fork _ = Err BadLine

-- end: a clone, a keyword, and a time
abbrev pub after_end : List (List ℕ) → Result ParsedLine LineFault
after_end (who ∷ keyword ∷ time ∷ []) = end who keyword time
after_end _ = Err BadLine

-- set: a clone, a keyword, a time, a station, a parameter, and its values
abbrev pub after_set : List (List ℕ) → Result ParsedLine LineFault
after_set (who ∷ keyword ∷ time ∷ station ∷ word ∷ values) = set who keyword time station word values
after_set _ = Err BadLine

-- the meaning of a line by its first word and the others
abbrev pub sentence : List ℕ → List (List ℕ) → Result ParsedLine LineFault
sentence verb rest = if bytes_eq verb (codes "analyst") then after_analyst rest
    else (if bytes_eq verb (codes "fork") then after_fork rest
    else (if bytes_eq verb (codes "set") then after_set rest
    else (if bytes_eq verb (codes "end") then after_end rest
    else (if bytes_eq verb (codes "look") then after_look rest
    else Err BadLine))))

-- a first word that begins with a number sign
abbrev pub begins_comment : List ℕ → Bool
begins_comment [] = false
begins_comment (b ∷ bs) = b == 35

-- a line without words, or a comment, means nothing
abbrev pub saying : List (List ℕ) → Result ParsedLine LineFault
saying [] = Ok Nothing
saying (w ∷ ws) = if begins_comment w then Ok Nothing else sentence w ws

-- the meaning of a line, or the first rule that it breaks
abbrev pub line_saying : List ℕ → Result ParsedLine LineFault
line_saying line = if is_ascii line then saying (words line) else Err NotAscii
