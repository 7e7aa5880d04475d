-- One word of a command line in clap's walk.
use Rattle.std.proofs.Common.{◌≡◌, ◌∙◌, ◌&&◌, ℕ, Bool, true, false, cond, List, [], ◌∷◌, ◌++◌, refl, ap}
use Rattle.std.proofs.Common.{codes, fold}
use Rattle.std.proofs.Common.{Option, Some, None, bytes_eq, slice_get, chars}
use Rattle.std.proofs.Common.{◌==◌}
use Rattle.std.specs.List.{before_first}
use Rattle.std.specs.Option.{option_map_or}
use Rattle.std.proofs.lemmas.Bool.{and_right}
use Rattle.clap.specs.Lexer.{long_of, short_of}
use Rattle.clap.specs.Kinds.{Kinds, or_else}
use Rattle.clap.specs.Faults.{bundle_fault, flags_fault, other_fault, settle_fault, turn_fault, walk_fault}
use Rattle.clap.specs.Simple.{Shape, built}
use Rattle.clap.specs.Walk.{Held, Row, Text, Waiting, Walk, has_row, idle, option, positional}
use Rattle.clap.specs.Walk.{settled, settled_rows, walked, with_values, without}
use Rattle.clap.specs.declared.error.kind.ErrorKind.{ErrorKind}
use Rattle.clap.specs.declared.error.kind.ErrorKind.TheVariants as kind
use Rattle.clap.specs.declared.builder.value_parser.Reading.TheVariants.{AsWritten}
use Rattle.clap.specs.declared.parser.matches.ValueSource.TheVariants.{CommandLine}
use Rattle.command_words.specs.Application.{cloner_app}
use Rattle.command_words.specs.Clap.{unless_fault, values_in}
use Rattle.command_words.specs.Rules.{OptionName, workers, clone, until, option_text, option_word}
use Rattle.command_words.specs.Values.{GivenView}

-- the command, built
abbrev pub shape : Shape
shape = (built cloner_app).top

-- what the walk holds
abbrev pub walk_holds : List Row → Option (Text × List Text) → Held
walk_holds rows pending = record { rows = rows; pending = pending; skip = 0 }

-- clap's walk between two words
abbrev pub walk_between : List Row → Option (Text × List Text) → Waiting → ℕ → Bool → Walk
walk_between rows pending waiting position ended = record {
  held = walk_holds rows pending;
  waiting = waiting;
  position = position;
  is_trailing = ended;
  stopped = None;
}

-- what the walk holds after the words
abbrev pub end_of : Walk → List Text → Held
end_of w words = (fold (walked shape.rules []) w words).held

-- what clap finds from this point of its walk
abbrev pub values_from : Walk → List Text → Option GivenView
values_from w words =
    unless_fault (or_else (walk_fault shape [] w words) (settle_fault shape.rules false (end_of w words)))
    (Some (values_in (settled shape.rules (end_of w words)).rows))

-- the fault of the pending use
abbrev pub pending_fault : List Row → Option (Text × List Text) → Kinds
pending_fault rows pending = settle_fault shape.rules false (walk_holds rows pending)

-- the rows with the pending use
abbrev pub rows_with : List Row → Option (Text × List Text) → List Row
rows_with rows pending = settled_rows shape.rules pending rows

-- the rows after a use of an option or a positional
abbrev pub used : Text → Text → List Row → List Row
used id value rows = with_values id AsWritten CommandLine (value ∷ []) (without id rows)

-- ---- values_from

-- two steps, one after the other
two_faults : (a b c : Kinds) (v : Option GivenView)
    → unless_fault (or_else (or_else a b) c) v ≡ unless_fault a (unless_fault (or_else b c) v)
two_faults [] b c v = refl
two_faults (k ∷ ks) b c v = refl

-- a word, and then the others
values_from-cons : (w : Walk) (word : Text) (rest : List Text) → values_from w (word ∷ rest)
    ≡ unless_fault (turn_fault shape [] w word) (values_from (walked shape.rules [] w word) rest)
unfolding walk_fault
values_from-cons w word rest = two_faults (turn_fault shape [] w word) _ _ _

-- a word that clap takes
pub values_from-taken : (w v : Walk) (word : Text) (rest : List Text) → turn_fault shape [] w word ≡ []
    → walked shape.rules [] w word ≡ v → values_from w (word ∷ rest) ≡ values_from v rest
values_from-taken w v word rest none walks =
    values_from-cons w word rest ∙ ap (λ k. unless_fault k (values_from (walked shape.rules [] w word) rest)) none
    ∙ ap (λ x. values_from x rest) walks

-- a word that clap refuses
pub values_from-refused : (w : Walk) (word : Text) (rest : List Text) (k : ErrorKind) (ks : Kinds)
    → turn_fault shape [] w word ≡ k ∷ ks → values_from w (word ∷ rest) ≡ None
values_from-refused w word rest k ks some =
    values_from-cons w word rest ∙ ap (λ x. unless_fault x (values_from (walked shape.rules [] w word) rest)) some

-- ---- `--`

-- the word itself has no fault
pub fault_at_end : (rows : List Row) (p : Option (Text × List Text)) (waiting : Waiting) (position : ℕ)
    → turn_fault shape [] (walk_between rows p waiting position false) (codes "--") ≡ []
fault_at_end rows p idle position = refl
fault_at_end rows p (option id) position = refl
fault_at_end rows p positional position = refl

-- from here on all words are positionals
pub walk_at_end : (rows : List Row) (p : Option (Text × List Text)) (waiting : Waiting) (position : ℕ)
    → walked shape.rules [] (walk_between rows p waiting position false) (codes "--")
    ≡ walk_between rows p waiting position true
unfolding walked
walk_at_end rows p idle position = refl
walk_at_end rows p (option id) position = refl
walk_at_end rows p positional position = refl

-- ---- `--NAME`

-- the earlier pending use may fail
pub fault_of_name : (name : OptionName) (rows : List Row) (p : Option (Text × List Text)) (waiting : Waiting)
    (position : ℕ) → turn_fault shape [] (walk_between rows p waiting position false) (option_word name)
    ≡ or_else (pending_fault rows p) []
fault_of_name workers rows p idle position = refl
fault_of_name workers rows p (option id) position = refl
fault_of_name workers rows p positional position = refl
fault_of_name clone rows p idle position = refl
fault_of_name clone rows p (option id) position = refl
fault_of_name clone rows p positional position = refl
fault_of_name until rows p idle position = refl
fault_of_name until rows p (option id) position = refl
fault_of_name until rows p positional position = refl

-- the option waits for its value
pub walk_of_name : (name : OptionName) (rows : List Row) (p : Option (Text × List Text)) (position : ℕ)
    → walked shape.rules [] (walk_between rows p idle position false) (option_word name)
    ≡ walk_between (rows_with rows p) (Some (option_text name, [])) (option (option_text name)) position false
unfolding walked
walk_of_name workers rows p position = refl
walk_of_name clone rows p position = refl
walk_of_name until rows p position = refl

-- ---- `--NAME=V`

-- the option has a value already
abbrev pub repeated : Text → List Row → Kinds
repeated id rows = cond (has_row id rows && true) (kind.ArgumentConflict ∷ []) []

-- the earlier pending use may fail, or the option has a value already
pub fault_of_value : (name : OptionName) (v : Text) (rows : List Row) (p : Option (Text × List Text))
    (waiting : Waiting) (position : ℕ)
    → turn_fault shape [] (walk_between rows p waiting position false) (option_word name ++ (61 ∷ v))
    ≡ or_else (or_else (pending_fault rows p) (or_else (repeated (option_text name) (rows_with rows p)) [])) []
fault_of_value workers v rows p idle position = refl
fault_of_value workers v rows p (option id) position = refl
fault_of_value workers v rows p positional position = refl
fault_of_value clone v rows p idle position = refl
fault_of_value clone v rows p (option id) position = refl
fault_of_value clone v rows p positional position = refl
fault_of_value until v rows p idle position = refl
fault_of_value until v rows p (option id) position = refl
fault_of_value until v rows p positional position = refl

-- the option is used
pub walk_of_value : (name : OptionName) (v : Text) (rows : List Row) (p : Option (Text × List Text)) (position : ℕ)
    → walked shape.rules [] (walk_between rows p idle position false) (option_word name ++ (61 ∷ v))
    ≡ walk_between (used (option_text name) v (rows_with rows p)) None idle position false
unfolding walked
walk_of_value workers v rows p position = refl
walk_of_value clone v rows p position = refl
walk_of_value until v rows p position = refl

-- ---- a word that is no flag

-- clap does not take the word for a flag
pub record IsPlain (word : Text) : Type 0 where
  pub no_end : bytes_eq word (codes "--") ≡ false
  pub no_long : long_of word ≡ None
  pub no_short : short_of word ≡ None

-- the word as the value that an option waits for
pub fault_of_next : (name : OptionName) (word : Text) (rows : List Row) (position : ℕ) → IsPlain word
    → turn_fault shape []
    (walk_between rows (Some (option_text name, [])) (option (option_text name)) position false) word ≡ []
fault_of_next workers word rows position plain = rw (plain.no_end, plain.no_long, plain.no_short) refl
fault_of_next clone word rows position plain = rw (plain.no_end, plain.no_long, plain.no_short) refl
fault_of_next until word rows position plain = rw (plain.no_end, plain.no_long, plain.no_short) refl

-- the word is pending with the option
pub walk_of_next : (name : OptionName) (word : Text) (rows : List Row) (position : ℕ) → IsPlain word
    → walked shape.rules []
    (walk_between rows (Some (option_text name, [])) (option (option_text name)) position false) word
    ≡ walk_between rows (Some (option_text name, word ∷ [])) idle position false
unfolding walked
walk_of_next workers word rows position plain = rw (plain.no_end, plain.no_long, plain.no_short) refl
walk_of_next clone word rows position plain = rw (plain.no_end, plain.no_long, plain.no_short) refl
walk_of_next until word rows position plain = rw (plain.no_end, plain.no_long, plain.no_short) refl

-- the word as a positional: the first to the fourth
pub data Place : Type 0 where
  mode : Place
  first : Place
  second : Place
  third : Place

-- its name
abbrev pub positional_name : Place → Text
positional_name mode = codes "mode"
positional_name first = codes "first"
positional_name second = codes "second"
positional_name third = codes "third"

-- its number
abbrev pub positional_number : Place → ℕ
positional_number mode = 1
positional_number first = 2
positional_number second = 3
positional_number third = 4

-- the number after it
abbrev pub next_positional : Place → ℕ
next_positional mode = 2
next_positional first = 3
next_positional second = 4
next_positional third = 5

-- no positional takes several words
not_several : (id : Text) (p : Option (Text × List Text))
    → (option_map_or (λ q. bytes_eq q.0 id) p false && false) ≡ false
not_several id p = and_right (option_map_or (λ q. bytes_eq q.0 id) p false) false refl

-- a settled use of an option is a use of it
pub rows_with-option : (name : OptionName) (v : Text) (rows : List Row)
    → rows_with rows (Some (option_text name, v ∷ [])) ≡ used (option_text name) v rows
rows_with-option workers v rows = refl
rows_with-option clone v rows = refl
rows_with-option until v rows = refl

-- the same for a positional
pub rows_with-place : (k : Place) (v : Text) (rows : List Row)
    → rows_with rows (Some (positional_name k, v ∷ [])) ≡ used (positional_name k) v rows
rows_with-place mode v rows = refl
rows_with-place first v rows = refl
rows_with-place second v rows = refl
rows_with-place third v rows = refl

-- the earlier pending use may fail
pub fault_of_plain : (k : Place) (word : Text) (rows : List Row) (p : Option (Text × List Text)) → IsPlain word
    → turn_fault shape [] (walk_between rows p idle (positional_number k) false) word ≡ pending_fault rows p
fault_of_plain mode word rows p plain =
    rw (plain.no_end, plain.no_long, plain.no_short, not_several (codes "mode") p) refl
fault_of_plain first word rows p plain =
    rw (plain.no_end, plain.no_long, plain.no_short, not_several (codes "first") p) refl
fault_of_plain second word rows p plain =
    rw (plain.no_end, plain.no_long, plain.no_short, not_several (codes "second") p) refl
fault_of_plain third word rows p plain =
    rw (plain.no_end, plain.no_long, plain.no_short, not_several (codes "third") p) refl

-- the word is pending
pub walk_of_plain : (k : Place) (word : Text) (rows : List Row) (p : Option (Text × List Text)) → IsPlain word
    → walked shape.rules [] (walk_between rows p idle (positional_number k) false) word
    ≡ walk_between (rows_with rows p) (Some (positional_name k, word ∷ [])) idle (next_positional k) false
unfolding walked
walk_of_plain mode word rows p plain =
    rw (plain.no_end, plain.no_long, plain.no_short, not_several (codes "mode") p) refl
walk_of_plain first word rows p plain =
    rw (plain.no_end, plain.no_long, plain.no_short, not_several (codes "first") p) refl
walk_of_plain second word rows p plain =
    rw (plain.no_end, plain.no_long, plain.no_short, not_several (codes "second") p) refl
walk_of_plain third word rows p plain =
    rw (plain.no_end, plain.no_long, plain.no_short, not_several (codes "third") p) refl

-- there is no fifth positional
pub fault_of_fifth : (word : Text) (rows : List Row) (p : Option (Text × List Text)) → IsPlain word
    → turn_fault shape [] (walk_between rows p idle 5 false) word ≡ kind.UnknownArgument ∷ []
fault_of_fifth word rows p plain = rw (plain.no_end, plain.no_long, plain.no_short) refl

-- ---- after `--`

-- the earlier pending use may fail
pub fault_behind : (k : Place) (word : Text) (rows : List Row) (p : Option (Text × List Text)) (waiting : Waiting)
    → turn_fault shape [] (walk_between rows p waiting (positional_number k) true) word ≡ pending_fault rows p
fault_behind mode word rows p waiting = rw (not_several (codes "mode") p) refl
fault_behind first word rows p waiting = rw (not_several (codes "first") p) refl
fault_behind second word rows p waiting = rw (not_several (codes "second") p) refl
fault_behind third word rows p waiting = rw (not_several (codes "third") p) refl

-- the word is pending
pub walk_behind : (k : Place) (word : Text) (rows : List Row) (p : Option (Text × List Text)) (waiting : Waiting)
    → walked shape.rules [] (walk_between rows p waiting (positional_number k) true) word
    ≡ walk_between (rows_with rows p) (Some (positional_name k, word ∷ [])) idle (next_positional k) true
unfolding walked
walk_behind mode word rows p waiting = rw (not_several (codes "mode") p) refl
walk_behind first word rows p waiting = rw (not_several (codes "first") p) refl
walk_behind second word rows p waiting = rw (not_several (codes "second") p) refl
walk_behind third word rows p waiting = rw (not_several (codes "third") p) refl

-- there is no fifth positional
pub fault_of_fifth_behind : (word : Text) (rows : List Row) (p : Option (Text × List Text)) (waiting : Waiting)
    → turn_fault shape [] (walk_between rows p waiting 5 true) word ≡ kind.UnknownArgument ∷ []
fault_of_fifth_behind word rows p waiting = refl

-- ---- a flag that does not exist

-- clap refuses the word at any place for an option
abbrev pub IsRefused : Text → Type 0
IsRefused word = (rows : List Row) (p : Option (Text × List Text)) (waiting : Waiting) (position : ℕ)
    → turn_fault shape [] (walk_between rows p waiting position false) word ≡ kind.UnknownArgument ∷ []

-- NAME in NAME or NAME=V
abbrev pub long_name : Text → Text
long_name text = before_first (λ x. x == 61) text

-- `--` before another name
pub refused_long : (x : ℕ) (text : Text)
    → ((name : OptionName) → bytes_eq (option_text name) (long_name (x ∷ text)) ≡ false)
    → IsRefused (45 ∷ 45 ∷ x ∷ text)
refused_long x text other rows p idle position = rw (other workers, other clone, other until) refl
refused_long x text other rows p (option id) position = rw (other workers, other clone, other until) refl
refused_long x text other rows p positional position = rw (other workers, other clone, other until) refl

-- no option is one character
no_bundle : (x c : ℕ) (text : Text) (h : Held) → h.skip ≡ 0 → slice_get (chars (x ∷ text)) 0 ≡ Some c
    → bundle_fault shape.rules false (x ∷ text) h ≡ kind.UnknownArgument ∷ []
unfolding flags_fault
no_bundle x c text h none begins = rw (none, begins) refl

-- a word after one dash is refused
short_word_fault : (x c : ℕ) (text : Text) (h : Held) → h.skip ≡ 0 → (x == 45) ≡ false
    → slice_get (chars (x ∷ text)) 0 ≡ Some c
    → other_fault shape None (45 ∷ x ∷ text) h ≡ kind.UnknownArgument ∷ []
short_word_fault x c text h none no_dash begins =
    let no_end : bytes_eq (45 ∷ x ∷ text) (codes "--") ≡ false = rw no_dash refl in
    let no_long : long_of (45 ∷ x ∷ text) ≡ None = rw no_dash refl in
    let flags : short_of (45 ∷ x ∷ text) ≡ Some (x ∷ text) = rw no_dash refl in
    rw (no_end, no_long, flags) (no_bundle x c text h none begins)

-- the first fault is reported
refused_by : (a b : Kinds) (k : ErrorKind) → a ≡ k ∷ [] → or_else a b ≡ k ∷ []
refused_by a b k e = ap (λ x. or_else x b) e

-- one dash before anything else
pub refused_short : (x c : ℕ) (text : Text) → (x == 45) ≡ false → slice_get (chars (x ∷ text)) 0 ≡ Some c
    → IsRefused (45 ∷ x ∷ text)
refused_short x c text no_dash begins rows p idle position =
    refused_by _ _ kind.UnknownArgument (short_word_fault x c text (walk_holds rows p) refl no_dash begins)
refused_short x c text no_dash begins rows p (option id) position =
    refused_by _ _ kind.UnknownArgument (short_word_fault x c text (walk_holds rows p) refl no_dash begins)
refused_short x c text no_dash begins rows p positional position =
    refused_by _ _ kind.UnknownArgument (short_word_fault x c text (walk_holds rows p) refl no_dash begins)
