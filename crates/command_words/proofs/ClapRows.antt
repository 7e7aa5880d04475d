-- The rows that clap has found, from one use to the next.
use Rattle.std.proofs.Common.{◌≡◌, ◌∙◌, ◌||◌, ℕ, true, false, cond, List, [], ◌∷◌, ◌++◌, refl, sym, ap, subst}
use Rattle.std.proofs.Common.{codes, find}
use Rattle.std.proofs.Common.{Option, Some, None, is_some, bytes_eq, slice_get, option_and_then, append-nil}
use Rattle.std.proofs.lemmas.Bool.{or_parts, or_right}
use Rattle.clap.specs.Walk.{Row, Text, at_row, first_of, has_row, more_values, with_values, without}
use Rattle.clap.specs.declared.error.kind.ErrorKind.TheVariants as kind
use Rattle.clap.specs.declared.builder.value_parser.Reading.TheVariants.{AsWritten}
use Rattle.clap.specs.declared.parser.matches.ValueSource.TheVariants.{CommandLine}
use Rattle.command_words.specs.Clap.{values_in}
use Rattle.command_words.specs.Rules.{OptionName, workers, clone, until, option_text, with_value}
use Rattle.command_words.specs.Values.{GivenView, positionals_of}
use Rattle.command_words.proofs.ClapSteps.{Place, first, mode, next_positional, pending_fault, positional_name, second}
use Rattle.command_words.proofs.ClapSteps.{third}
use Rattle.command_words.proofs.ClapSteps.{rows_with, rows_with-option, rows_with-place, used}

-- ---- the first use of an option or a positional adds a row

-- the row of a first use
abbrev new : Text → Text → Row
new id v = record { id = id; values = v ∷ []; count = None; source = Some CommandLine; reading = AsWritten }

-- a change that no row meets adds what is missing
unmatched : (id : Text) (change : Row → List Row) (missing rows : List Row) → has_row id rows ≡ false
    → at_row id change missing rows ≡ rows ++ missing
unmatched id change missing [] h = refl
unmatched id change missing (r ∷ rs) h =
    let parts = or_parts (bytes_eq r.id id) (has_row id rs) h in
    rw (parts.0) (ap (λ x. r ∷ x) (unmatched id change missing rs parts.1))

-- a first use is a row at the end
added : (id v : Text) (rows : List Row) → has_row id rows ≡ false → used id v rows ≡ rows ++ (new id v ∷ [])
added id v rows h =
    let gone : without id rows ≡ rows = unmatched id (λ _. []) [] rows h ∙ append-nil rows in
    ap (λ x. with_values id AsWritten CommandLine (v ∷ []) x) gone
    ∙ unmatched id (more_values CommandLine (v ∷ [])) (new id v ∷ []) rows h

-- the row is not that of another name
find-other : (id other v : Text) (rows : List Row) → bytes_eq id other ≡ false
    → find (λ r. bytes_eq r.id other) (rows ++ (new id v ∷ [])) ≡ find (λ r. bytes_eq r.id other) rows
find-other id other v [] h = rw h refl
find-other id other v (r ∷ rs) h =
    ap (λ x. cond (bytes_eq r.id other) (Some r) x) (find-other id other v rs h)

-- the row is found by its name
find-same : (id v : Text) (rows : List Row) → bytes_eq id id ≡ true → has_row id rows ≡ false
    → find (λ r. bytes_eq r.id id) (rows ++ (new id v ∷ [])) ≡ Some (new id v)
find-same id v [] same h = rw same refl
find-same id v (r ∷ rs) same h =
    let parts = or_parts (bytes_eq r.id id) (has_row id rs) h in
    rw (parts.0) (find-same id v rs same parts.1)

-- other names have a row as before
has_row-other : (id other v : Text) (rows : List Row) → bytes_eq id other ≡ false
    → has_row other (rows ++ (new id v ∷ [])) ≡ has_row other rows
has_row-other id other v [] h = rw h refl
has_row-other id other v (r ∷ rs) h = ap (λ x. bytes_eq r.id other || x) (has_row-other id other v rs h)

-- the new name has a row
has_row-same : (id v : Text) (rows : List Row) → bytes_eq id id ≡ true
    → has_row id (rows ++ (new id v ∷ [])) ≡ true
has_row-same id v [] same = rw same refl
has_row-same id v (r ∷ rs) same = or_right (bytes_eq r.id id) _ (has_row-same id v rs same)

-- ---- the rows of an option or a positional

-- the value that the rows have for a name, and that there is no row without one
pub record Tells (rows : List Row) (id : Text) (value : Option Text) : Type 0 where
  pub first_value : first_of id rows ≡ value
  pub present : has_row id rows ≡ is_some value

-- a first use changes nothing for other names
tells-other : (id other v : Text) (rows : List Row) (value : Option Text) → has_row id rows ≡ false
    → bytes_eq id other ≡ false → Tells rows other value → Tells (used id v rows) other value
tells-other id other v rows value none differs t =
    let after : Tells (rows ++ (new id v ∷ [])) other value = record {
      first_value = ap (λ f. option_and_then (λ r. slice_get r.values 0) f) (find-other id other v rows differs)
          ∙ t.first_value;
      present = has_row-other id other v rows differs ∙ t.present;
    } in
    subst (λ x. Tells x other value) (sym (added id v rows none)) after

-- the name has the value afterwards
tells-same : (id v : Text) (rows : List Row) → bytes_eq id id ≡ true → Tells rows id None
    → Tells (used id v rows) id (Some v)
tells-same id v rows same t =
    let after : Tells (rows ++ (new id v ∷ [])) id (Some v) = record {
      first_value = ap (λ f. option_and_then (λ r. slice_get r.values 0) f) (find-same id v rows same t.present);
      present = has_row-same id v rows same;
    } in
    subst (λ x. Tells x id (Some v)) (sym (added id v rows t.present)) after

-- ---- the rows of all options and positionals

-- the positionals so far
pub data Stage : Type 0 where
  none : Stage
  one : Text → Stage
  two : Text → Text → Stage
  three : Text → Text → Text → Stage
  four : Text → Text → Text → Text → Stage

-- as a list
abbrev pub listed : Stage → List Text
listed none = []
listed (one a) = a ∷ []
listed (two a b) = a ∷ b ∷ []
listed (three a b c) = a ∷ b ∷ c ∷ []
listed (four a b c d) = a ∷ b ∷ c ∷ d ∷ []

-- the number of the next one
abbrev pub place : Stage → ℕ
place none = 1
place (one a) = 2
place (two a b) = 3
place (three a b c) = 4
place (four a b c d) = 5

-- the index of a place in the list
abbrev pub index_of : Place → ℕ
index_of mode = 0
index_of first = 1
index_of second = 2
index_of third = 3

-- the positional at a place, if any
abbrev pub at_place : Place → Stage → Option Text
at_place k s = slice_get (listed s) (index_of k)

-- the value of each option, if it has one
abbrev pub OptionValues : Type 0
OptionValues = OptionName → Option Text

-- no option has a value
abbrev pub no_options : OptionValues
no_options name = None

-- the same with a value of one option
abbrev pub with_option : OptionName → Text → OptionValues → OptionValues
with_option workers v o workers = Some v
with_option clone v o clone = Some v
with_option until v o until = Some v
with_option given v o name = o name

-- these values as those of a command line
abbrev pub values_at : OptionValues → Stage → GivenView
values_at o s = record { workers = o workers; clone = o clone; until = o until; positionals = listed s }

-- the rows have these values of the options, and these positionals
pub record HaveValues (rows : List Row) (o : OptionValues) (s : Stage) : Type 0 where
  pub options : (name : OptionName) → Tells rows (option_text name) (o name)
  pub places : (k : Place) → Tells rows (positional_name k) (at_place k s)

-- without rows there are no values
pub at_start : HaveValues [] no_options none
at_start = record { options = λ name. of_option name; places = λ k. of_place k }
  where
    of_option : (name : OptionName) → Tells [] (option_text name) None
    of_option name = record { first_value = refl; present = refl }

    of_place : (k : Place) → Tells [] (positional_name k) (at_place k none)
    of_place mode = record { first_value = refl; present = refl }
    of_place first = record { first_value = refl; present = refl }
    of_place second = record { first_value = refl; present = refl }
    of_place third = record { first_value = refl; present = refl }

-- the four places as a list
positionals_of-stage : (s : Stage)
    → positionals_of (at_place mode s) (at_place first s) (at_place second s) (at_place third s) ≡ listed s
positionals_of-stage none = refl
positionals_of-stage (one a) = refl
positionals_of-stage (two a b) = refl
positionals_of-stage (three a b c) = refl
positionals_of-stage (four a b c d) = refl

-- the values of the rows
pub values_in-have : (rows : List Row) (o : OptionValues) (s : Stage) → HaveValues rows o s
    → values_in rows ≡ values_at o s
values_in-have rows o s h = rw (
  (h.options workers).first_value,
  (h.options clone).first_value,
  (h.options until).first_value,
  (h.places mode).first_value,
  (h.places first).first_value,
  (h.places second).first_value,
  (h.places third).first_value,
  positionals_of-stage s,
) refl

-- no positional has the name of an option
option_or_place : (name : OptionName) (k : Place) → bytes_eq (option_text name) (positional_name k) ≡ false
option_or_place workers mode = refl
option_or_place workers first = refl
option_or_place workers second = refl
option_or_place workers third = refl
option_or_place clone mode = refl
option_or_place clone first = refl
option_or_place clone second = refl
option_or_place clone third = refl
option_or_place until mode = refl
option_or_place until first = refl
option_or_place until second = refl
option_or_place until third = refl

-- no option has the name of a positional
place_or_option : (k : Place) (name : OptionName) → bytes_eq (positional_name k) (option_text name) ≡ false
place_or_option mode workers = refl
place_or_option mode clone = refl
place_or_option mode until = refl
place_or_option first workers = refl
place_or_option first clone = refl
place_or_option first until = refl
place_or_option second workers = refl
place_or_option second clone = refl
place_or_option second until = refl
place_or_option third workers = refl
place_or_option third clone = refl
place_or_option third until = refl

-- an option without a value has no row
pub not_given : (rows : List Row) (o : OptionValues) (s : Stage) (name : OptionName) → HaveValues rows o s
    → o name ≡ None → has_row (option_text name) rows ≡ false
not_given rows o s name h unused = (h.options name).present ∙ ap is_some unused

-- an option with a value has one
pub is_given : (rows : List Row) (o : OptionValues) (s : Stage) (name : OptionName) (w : Text) → HaveValues rows o s
    → o name ≡ Some w → has_row (option_text name) rows ≡ true
is_given rows o s name w h some = (h.options name).present ∙ ap is_some some

-- a first use of an option
pub option_used : (name : OptionName) (v : Text) (rows : List Row) (o : OptionValues) (s : Stage) → HaveValues rows o s
    → o name ≡ None → HaveValues (used (option_text name) v rows) (with_option name v o) s
option_used name v rows o s h unused = record {
  options = λ n. of_option name n free (subst (λ x. Tells rows (option_text name) x) unused (h.options name))
      (h.options n);
  places = λ k. tells-other (option_text name) (positional_name k) v rows (at_place k s) free (option_or_place name k)
      (h.places k);
}
  where
    free : has_row (option_text name) rows ≡ false
    free = not_given rows o s name h unused

    of_option : (name n : OptionName) → has_row (option_text name) rows ≡ false → Tells rows (option_text name) None
        → Tells rows (option_text n) (o n)
        → Tells (used (option_text name) v rows) (option_text n) (with_option name v o n)
    of_option workers workers f t old = tells-same (option_text workers) v rows refl t
    of_option workers clone f t old = tells-other (option_text workers) (option_text clone) v rows (o clone) f refl old
    of_option workers until f t old =
        tells-other (option_text workers) (option_text until) v rows (o until) f refl old
    of_option clone workers f t old =
        tells-other (option_text clone) (option_text workers) v rows (o workers) f refl old
    of_option clone clone f t old = tells-same (option_text clone) v rows refl t
    of_option clone until f t old =
        tells-other (option_text clone) (option_text until) v rows (o until) f refl old
    of_option until workers f t old =
        tells-other (option_text until) (option_text workers) v rows (o workers) f refl old
    of_option until clone f t old =
        tells-other (option_text until) (option_text clone) v rows (o clone) f refl old
    of_option until until f t old = tells-same (option_text until) v rows refl t

-- the same, while it is pending
pub option_pending : (name : OptionName) (v : Text) (rows : List Row) (o : OptionValues) (s : Stage)
    → HaveValues rows o s → o name ≡ None
    → HaveValues (rows_with rows (Some (option_text name, v ∷ []))) (with_option name v o) s
option_pending name v rows o s h unused = subst (λ r. HaveValues r (with_option name v o) s)
    (sym (rows_with-option name v rows)) (option_used name v rows o s h unused)

-- ---- with_value

-- a first value of an option
pub with_value-new : (name : OptionName) (v : Text) (o : OptionValues) (words : List Text) → o name ≡ None
    → with_value name v (record { workers = o workers; clone = o clone; until = o until; positionals = words })
    ≡ Some (record {
      workers = with_option name v o workers;
      clone = with_option name v o clone;
      until = with_option name v o until;
      positionals = words;
    })
with_value-new workers v o words h = rw h refl
with_value-new clone v o words h = rw h refl
with_value-new until v o words h = rw h refl

-- a second value
pub with_value-twice : (name : OptionName) (v w : Text) (o : OptionValues) (words : List Text) → o name ≡ Some w
    → with_value name v (record { workers = o workers; clone = o clone; until = o until; positionals = words }) ≡ None
with_value-twice workers v w o words h = rw h refl
with_value-twice clone v w o words h = rw h refl
with_value-twice until v w o words h = rw h refl

-- ---- a use of a positional

-- one more positional, at this place: the positionals before it, and with it
pub data Follows (v : Text) : Place → Stage → Stage → Type 0 where
  at_mode : Follows v mode none (one v)
  at_first : (a : Text) → Follows v first (one a) (two a v)
  at_second : (a b : Text) → Follows v second (two a b) (three a b v)
  at_third : (a b c : Text) → Follows v third (three a b c) (four a b c v)

-- the place was empty
not_there : (v : Text) (k : Place) (s t : Stage) → Follows v k s t → at_place k s ≡ None
not_there v _ _ _ at_mode = refl
not_there v _ _ _ (at_first a) = refl
not_there v _ _ _ (at_second a b) = refl
not_there v _ _ _ (at_third a b c) = refl

-- the next number is that of the next place
pub next_place : (v : Text) (k : Place) (s t : Stage) → Follows v k s t → next_positional k ≡ place t
next_place v _ _ _ at_mode = refl
next_place v _ _ _ (at_first a) = refl
next_place v _ _ _ (at_second a b) = refl
next_place v _ _ _ (at_third a b c) = refl

-- the place has no row
pub free_place : (v : Text) (k : Place) (s t : Stage) (rows : List Row) (o : OptionValues) → Follows v k s t
    → HaveValues rows o s → has_row (positional_name k) rows ≡ false
free_place v k s t rows o follows h = (h.places k).present ∙ ap is_some (not_there v k s t follows)

-- a use of a positional
pub place_used : (k : Place) (v : Text) (rows : List Row) (o : OptionValues) (s t : Stage) → Follows v k s t
    → HaveValues rows o s → HaveValues (used (positional_name k) v rows) o t
place_used k v rows o s t follows h = record {
  options = λ n. tells-other (positional_name k) (option_text n) v rows (o n) free (place_or_option k n) (h.options n);
  places = λ n. of_place k s t follows n free (subst (λ x. Tells rows (positional_name k) x) (not_there v k s t follows)
      (h.places k)) (h.places n);
}
  where
    free : has_row (positional_name k) rows ≡ false
    free = free_place v k s t rows o follows h

    of_place : (k : Place) (s t : Stage) → Follows v k s t → (n : Place) → has_row (positional_name k) rows ≡ false
        → Tells rows (positional_name k) None → Tells rows (positional_name n) (at_place n s)
        → Tells (used (positional_name k) v rows) (positional_name n) (at_place n t)
    of_place _ _ _ at_mode mode f u old = tells-same (codes "mode") v rows refl u
    of_place _ _ _ at_mode first f u old = tells-other (codes "mode") (codes "first") v rows None f refl old
    of_place _ _ _ at_mode second f u old = tells-other (codes "mode") (codes "second") v rows None f refl old
    of_place _ _ _ at_mode third f u old = tells-other (codes "mode") (codes "third") v rows None f refl old
    of_place _ _ _ (at_first a) mode f u old = tells-other (codes "first") (codes "mode") v rows (Some a) f refl old
    of_place _ _ _ (at_first a) first f u old = tells-same (codes "first") v rows refl u
    of_place _ _ _ (at_first a) second f u old = tells-other (codes "first") (codes "second") v rows None f refl old
    of_place _ _ _ (at_first a) third f u old = tells-other (codes "first") (codes "third") v rows None f refl old
    of_place _ _ _ (at_second a b) mode f u old = tells-other (codes "second") (codes "mode") v rows (Some a) f refl old
    of_place _ _ _ (at_second a b) first f u old =
        tells-other (codes "second") (codes "first") v rows (Some b) f refl old
    of_place _ _ _ (at_second a b) second f u old = tells-same (codes "second") v rows refl u
    of_place _ _ _ (at_second a b) third f u old = tells-other (codes "second") (codes "third") v rows None f refl old
    of_place _ _ _ (at_third a b c) mode f u old = tells-other (codes "third") (codes "mode") v rows (Some a) f refl old
    of_place _ _ _ (at_third a b c) first f u old =
        tells-other (codes "third") (codes "first") v rows (Some b) f refl old
    of_place _ _ _ (at_third a b c) second f u old =
        tells-other (codes "third") (codes "second") v rows (Some c) f refl old
    of_place _ _ _ (at_third a b c) third f u old = tells-same (codes "third") v rows refl u

-- the same, while it is pending
pub place_pending : (k : Place) (v : Text) (rows : List Row) (o : OptionValues) (s t : Stage) → Follows v k s t
    → HaveValues rows o s → HaveValues (rows_with rows (Some (positional_name k, v ∷ []))) o t
place_pending k v rows o s t follows h = subst (λ r. HaveValues r o t)
    (sym (rows_with-place k v rows)) (place_used k v rows o s t follows h)

-- ---- the pending use

-- a first use of an option has no fault
pub no_fault-option : (name : OptionName) (v : Text) (rows : List Row) → has_row (option_text name) rows ≡ false
    → pending_fault rows (Some (option_text name, v ∷ [])) ≡ []
no_fault-option workers v rows h = rw h refl
no_fault-option clone v rows h = rw h refl
no_fault-option until v rows h = rw h refl

-- a second use has one
pub fault-twice : (name : OptionName) (v : Text) (rows : List Row) → has_row (option_text name) rows ≡ true
    → pending_fault rows (Some (option_text name, v ∷ [])) ≡ kind.ArgumentConflict ∷ []
fault-twice workers v rows h = rw h refl
fault-twice clone v rows h = rw h refl
fault-twice until v rows h = rw h refl

-- a positional has none
pub no_fault-place : (k : Place) (v : Text) (rows : List Row) → has_row (positional_name k) rows ≡ false
    → pending_fault rows (Some (positional_name k, v ∷ [])) ≡ []
no_fault-place mode v rows h = rw h refl
no_fault-place first v rows h = rw h refl
no_fault-place second v rows h = rw h refl
no_fault-place third v rows h = rw h refl

-- an option without its value has one
pub fault-missing : (name : OptionName) (rows : List Row)
    → pending_fault rows (Some (option_text name, [])) ≡ kind.InvalidValue ∷ []
fault-missing workers rows = refl
fault-missing clone rows = refl
fault-missing until rows = refl
