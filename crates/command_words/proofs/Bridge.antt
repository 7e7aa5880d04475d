-- Clap finds the values of the rules.
use Rattle.std.proofs.Common.{◌≡◌, ◌∙◌, ℕ, Bool, true, false, cond, List, [], ◌∷◌, ◌++◌, length, nat_le, refl, sym}
use Rattle.std.proofs.Common.{ap, ap₂}
use Rattle.std.proofs.Common.{◌||◌}
use Rattle.std.proofs.Common.{Option, Some, None, IsUtf8, codes, fold, option_and_then, ⊎_elim, arith}
use Rattle.std.specs.List.{AllByRecursion, list_all}
use Rattle.std.specs.Str.{is_utf8}
use Rattle.std.proofs.lemmas.Str.{IsUtf8-from_is_utf8}
use Rattle.std.proofs.lemmas.Bool.{and_parts, cases_Bool, cond-true, lt-leb, or_right}
use Rattle.clap.specs.Kinds.{Kinds, or_else}
use Rattle.clap.specs.Faults.{check_fault, default_fault, defaults_fault, entered_fault, fault_of, settle_fault}
use Rattle.clap.specs.Faults.{walk_fault}
use Rattle.clap.specs.Simple.{built, matches_of}
use Rattle.clap.specs.Walk.{Row, Rule, Text, Waiting, default_rows, has_row, idle, is_empty, option, reading_by}
use Rattle.clap.specs.Walk.{finished, settled, with_default}
use Rattle.clap.specs.declared.error.kind.ErrorKind.{ErrorKind}
use Rattle.clap.specs.declared.error.kind.ErrorKind.TheVariants as kind
use Rattle.command_words.specs.Application.{cloner_app}
use Rattle.command_words.specs.Clap.{ClapFindsTheValues, clap_values, unless_fault, up_to_four, values_in}
use Rattle.command_words.specs.Rules.{DashedWord, OptionName, after_dashed, bare_option, clone, dashed_word, ending}
use Rattle.command_words.specs.Rules.{is_dashed, option_text, option_with_value, option_word, read, unknown, until}
use Rattle.command_words.specs.Rules.{values, with_positionals, with_value, workers}
use Rattle.command_words.specs.Values.{GivenView}
use Rattle.command_words.proofs.ClapRows.{Follows, HaveValues, OptionValues, Stage, at_first, at_mode, at_second}
use Rattle.command_words.proofs.ClapRows.{at_start}
use Rattle.command_words.proofs.ClapRows.{at_third, fault-missing, fault-twice, four, free_place, is_given, listed}
use Rattle.command_words.proofs.ClapRows.{next_place, no_fault-option, no_fault-place, no_options, none, not_given, one}
use Rattle.command_words.proofs.ClapRows.{option_pending, option_used, place, place_pending, three, two, values_at}
use Rattle.command_words.proofs.ClapRows.{values_in-have}
use Rattle.command_words.proofs.ClapRows.{with_option, with_value-new, with_value-twice}
use Rattle.command_words.proofs.ClapSteps.{IsPlain, Place, end_of, fault_at_end, fault_behind, fault_of_fifth}
use Rattle.command_words.proofs.ClapSteps.{fault_of_fifth_behind, fault_of_name, fault_of_next, fault_of_plain}
use Rattle.command_words.proofs.ClapSteps.{fault_of_value, first, mode, next_positional, pending_fault, positional_name}
use Rattle.command_words.proofs.ClapSteps.{positional_number, repeated, rows_with, second, shape, third, used}
use Rattle.command_words.proofs.ClapSteps.{values_from, values_from-refused, values_from-taken, walk_at_end}
use Rattle.command_words.proofs.ClapSteps.{walk_behind}
use Rattle.command_words.proofs.ClapSteps.{walk_between, walk_of_name, walk_of_next, walk_of_plain, walk_of_value}
use Rattle.command_words.proofs.WordShapes.{IsPlain-of_undashed, Says, Says-dashed_word}

-- ---- more than four positionals

-- values with five positionals or more
abbrev pub many : OptionValues → Text → Text → Text → Text → Text → List Text → GivenView
many o x y z u t more = record {
  workers = o workers;
  clone = o clone;
  until = o until;
  positionals = x ∷ y ∷ z ∷ u ∷ t ∷ more;
}

-- clap has no place for them
pub more_than_four : (w c n : Option Text) (x y z u t : Text) (more : List Text)
    → up_to_four (record { workers = w; clone = c; until = n; positionals = x ∷ y ∷ z ∷ u ∷ t ∷ more }) ≡ None
more_than_four w c n x y z u t more =
    let long_list : nat_le (length (x ∷ y ∷ z ∷ u ∷ t ∷ more)) 4 ≡ false =
    lt-leb (length (x ∷ y ∷ z ∷ u ∷ t ∷ more)) 4 (omega arith) in
    rw long_list refl

-- they stay too many, whatever follows
abbrev StaysMany : List Text → Text → Text → Text → Text → Text → Type 0
StaysMany rest x y z u t = (due : Option OptionName) (o : OptionValues) (more : List Text)
    → option_and_then up_to_four (read rest due (many o x y z u t more)) ≡ None

-- with the value of an option
many_value : (name : OptionName) (v : Text) (rest : List Text) (o : OptionValues) (x y z u t : Text) (more : List Text)
    → StaysMany rest x y z u t
    → option_and_then up_to_four (option_and_then (read rest None) (with_value name v (many o x y z u t more))) ≡ None
many_value name v rest o x y z u t more again = by (o name) refl
  where
    by : (given : Option Text) → o name ≡ given
        → option_and_then up_to_four (option_and_then (read rest None) (with_value name v (many o x y z u t more)))
        ≡ None
    by None e = ap (λ g. option_and_then up_to_four (option_and_then (read rest None) g))
        (with_value-new name v o (x ∷ y ∷ z ∷ u ∷ t ∷ more) e)
        ∙ again None (with_option name v o) more
    by (Some w) e = ap (λ g. option_and_then up_to_four (option_and_then (read rest None) g))
        (with_value-twice name v w o (x ∷ y ∷ z ∷ u ∷ t ∷ more) e)

-- with a word with a dash
many_dashed : (d : DashedWord) (rest : List Text) (o : OptionValues) (x y z u t : Text) (more : List Text)
    → StaysMany rest x y z u t
    → option_and_then up_to_four (after_dashed d rest (read rest) (many o x y z u t more)) ≡ None
many_dashed ending rest o x y z u t more again =
    more_than_four (o workers) (o clone) (o until) x y z u t (more ++ rest)
many_dashed (bare_option name) rest o x y z u t more again = again (Some name) o more
many_dashed (option_with_value name v) rest o x y z u t more again = many_value name v rest o x y z u t more again
many_dashed unknown rest o x y z u t more again = refl

-- with any word, if no option waits for its value
many_free : (b : Bool) (word : Text) (rest : List Text) (o : OptionValues) (x y z u t : Text) (more : List Text)
    → StaysMany rest x y z u t
    → option_and_then up_to_four (cond b (after_dashed (dashed_word word) rest (read rest) (many o x y z u t more))
    (read rest None (with_positionals (word ∷ []) (many o x y z u t more)))) ≡ None
many_free true word rest o x y z u t more again = many_dashed (dashed_word word) rest o x y z u t more again
many_free false word rest o x y z u t more again = again None o (more ++ (word ∷ []))

-- with any word, if an option waits for its value
many_due : (b : Bool) (name : OptionName) (word : Text) (rest : List Text) (o : OptionValues) (x y z u t : Text)
    (more : List Text) → StaysMany rest x y z u t
    → option_and_then up_to_four (cond b None
    (option_and_then (read rest None) (with_value name word (many o x y z u t more)))) ≡ None
many_due true name word rest o x y z u t more again = refl
many_due false name word rest o x y z u t more again = many_value name word rest o x y z u t more again

-- they stay too many, with any words
too_many : (words : List Text) (x y z u t : Text) → StaysMany words x y z u t
too_many [] x y z u t None o more = more_than_four (o workers) (o clone) (o until) x y z u t more
too_many [] x y z u t (Some name) o more = refl
too_many (word ∷ rest) x y z u t None o more =
    many_free (is_dashed word) word rest o x y z u t more (too_many rest x y z u t)
too_many (word ∷ rest) x y z u t (Some name) o more =
    many_due (is_dashed word) name word rest o x y z u t more (too_many rest x y z u t)

-- ---- the end of the words

-- the pending use is settled
at_last : (rows : List Row) (p : Option (Text × List Text)) (waiting : Waiting) (position : ℕ) (ended : Bool)
    → values_from (walk_between rows p waiting position ended) []
    ≡ unless_fault (pending_fault rows p) (Some (values_in (rows_with rows p)))
unfolding walk_fault
at_last rows p waiting position ended = refl

-- the rows have at most four positionals
up_to_four-at : (o : OptionValues) (s : Stage) → up_to_four (values_at o s) ≡ Some (values_at o s)
up_to_four-at o none = refl
up_to_four-at o (one a) = refl
up_to_four-at o (two a b) = refl
up_to_four-at o (three a b d) = refl
up_to_four-at o (four a b c d) = refl

-- the same with no more words
up_to_four-end : (o : OptionValues) (s : Stage)
    → up_to_four (with_positionals [] (values_at o s)) ≡ Some (values_at o s)
up_to_four-end o none = refl
up_to_four-end o (one a) = refl
up_to_four-end o (two a b) = refl
up_to_four-end o (three a b d) = refl
up_to_four-end o (four a b c d) = refl

-- clap finds the values of its rows
values_from-end : (rows : List Row) (p : Option (Text × List Text)) (waiting : Waiting) (ended : Bool)
    (o : OptionValues) (s : Stage) → pending_fault rows p ≡ [] → HaveValues (rows_with rows p) o s
    → values_from (walk_between rows p waiting (place s) ended) [] ≡ Some (values_at o s)
values_from-end rows p waiting ended o s clear st =
    at_last rows p waiting (place s) ended
    ∙ ap (λ k. unless_fault k (Some (values_in (rows_with rows p)))) clear
    ∙ ap (λ (v : GivenView). Some v) (values_in-have (rows_with rows p) o s st)

-- ---- after `--`

-- clap finds in these words, each a positional, what the rules read
abbrev Behind : List Text → Type 0
Behind words = (rows : List Row) (p : Option (Text × List Text)) (waiting : Waiting) (o : OptionValues) (s : Stage)
    → pending_fault rows p ≡ [] → HaveValues (rows_with rows p) o s
    → values_from (walk_between rows p waiting (place s) true) words
    ≡ up_to_four (with_positionals words (values_at o s))

-- one of them, at this place
behind_at : (k : Place) (s t : Stage) (word : Text) (rest : List Text) → Follows word k s t → Behind rest
    → (rows : List Row) (p : Option (Text × List Text)) (waiting : Waiting) (o : OptionValues)
    → pending_fault rows p ≡ [] → HaveValues (rows_with rows p) o s
    → values_from (walk_between rows p waiting (positional_number k) true) (word ∷ rest)
    ≡ up_to_four (with_positionals rest (values_at o t))
behind_at k s t word rest follows again rows p waiting o clear st =
    values_from-taken (walk_between rows p waiting (positional_number k) true)
    (walk_between (rows_with rows p) (Some (positional_name k, word ∷ [])) idle (next_positional k) true)
    word rest (fault_behind k word rows p waiting ∙ clear) (walk_behind k word rows p waiting)
    ∙ ap (λ n. values_from (walk_between (rows_with rows p) (Some (positional_name k, word ∷ [])) idle n true) rest)
    (next_place word k s t follows)
    ∙ again (rows_with rows p) (Some (positional_name k, word ∷ [])) idle o t
    (no_fault-place k word (rows_with rows p) (free_place word k s t (rows_with rows p) o follows st))
    (place_pending k word (rows_with rows p) o s t follows st)

-- the same for all words; a fifth is refused
behind : (words : List Text) → Behind words
behind [] rows p waiting o s clear st =
    values_from-end rows p waiting true o s clear st ∙ sym (up_to_four-end o s)
behind (word ∷ rest) rows p waiting o none clear st =
    behind_at mode none (one word) word rest at_mode (behind rest) rows p waiting o clear st
behind (word ∷ rest) rows p waiting o (one a) clear st =
    behind_at first (one a) (two a word) word rest (at_first a) (behind rest) rows p waiting o clear st
behind (word ∷ rest) rows p waiting o (two a b) clear st =
    behind_at second (two a b) (three a b word) word rest (at_second a b) (behind rest) rows p waiting o clear st
behind (word ∷ rest) rows p waiting o (three a b c) clear st =
    behind_at third (three a b c) (four a b c word) word rest (at_third a b c) (behind rest) rows p waiting o clear st
behind (word ∷ rest) rows p waiting o (four a b c d) clear st =
    values_from-refused (walk_between rows p waiting 5 true) word rest kind.UnknownArgument []
    (fault_of_fifth_behind word rows p waiting)
    ∙ sym (more_than_four (o workers) (o clone) (o until) a b c d word rest)

-- ---- if the pending use has a fault, clap refuses the words, whatever follows

-- at the end of the words
doomed_end : (rows : List Row) (p : Option (Text × List Text)) (waiting : Waiting) (position : ℕ) (ended : Bool)
    (k : ErrorKind) (ks : Kinds) → pending_fault rows p ≡ k ∷ ks
    → values_from (walk_between rows p waiting position ended) [] ≡ None
doomed_end rows p waiting position ended k ks fault =
    at_last rows p waiting position ended
    ∙ ap (λ x. unless_fault x (Some (values_in (rows_with rows p)))) fault

-- after `--`
doomed_behind : (rest : List Text) (rows : List Row) (p : Option (Text × List Text)) (waiting : Waiting) (s : Stage)
    (k : ErrorKind) (ks : Kinds) → pending_fault rows p ≡ k ∷ ks
    → values_from (walk_between rows p waiting (place s) true) rest ≡ None
doomed_behind [] rows p waiting s k ks fault = doomed_end rows p waiting (place s) true k ks fault
doomed_behind (word ∷ rest) rows p waiting none k ks fault =
    values_from-refused (walk_between rows p waiting 1 true) word rest k ks
    (fault_behind mode word rows p waiting ∙ fault)
doomed_behind (word ∷ rest) rows p waiting (one a) k ks fault =
    values_from-refused (walk_between rows p waiting 2 true) word rest k ks
    (fault_behind first word rows p waiting ∙ fault)
doomed_behind (word ∷ rest) rows p waiting (two a b) k ks fault =
    values_from-refused (walk_between rows p waiting 3 true) word rest k ks
    (fault_behind second word rows p waiting ∙ fault)
doomed_behind (word ∷ rest) rows p waiting (three a b c) k ks fault =
    values_from-refused (walk_between rows p waiting 4 true) word rest k ks
    (fault_behind third word rows p waiting ∙ fault)
doomed_behind (word ∷ rest) rows p waiting (four a b c d) k ks fault =
    values_from-refused (walk_between rows p waiting 5 true) word rest kind.UnknownArgument []
    (fault_of_fifth_behind word rows p waiting)

-- at a word with a dash
doomed_dashed : (d : DashedWord) (word : Text) (rest : List Text) (rows : List Row) (p : Option (Text × List Text))
    (waiting : Waiting) (s : Stage) (k : ErrorKind) (ks : Kinds) → Says d word → pending_fault rows p ≡ k ∷ ks
    → values_from (walk_between rows p waiting (place s) false) (word ∷ rest) ≡ None
doomed_dashed ending word rest rows p waiting s k ks e fault =
    ap (λ x. values_from (walk_between rows p waiting (place s) false) (x ∷ rest)) e
    ∙ values_from-taken (walk_between rows p waiting (place s) false)
    (walk_between rows p waiting (place s) true) (codes "--") rest
    (fault_at_end rows p waiting (place s)) (walk_at_end rows p waiting (place s))
    ∙ doomed_behind rest rows p waiting s k ks fault
doomed_dashed (bare_option name) word rest rows p waiting s k ks e fault =
    ap (λ x. values_from (walk_between rows p waiting (place s) false) (x ∷ rest)) e
    ∙ values_from-refused (walk_between rows p waiting (place s) false) (option_word name) rest k ks
    (fault_of_name name rows p waiting (place s) ∙ ap (λ x. or_else x []) fault)
doomed_dashed (option_with_value name v) word rest rows p waiting s k ks e fault =
    ap (λ x. values_from (walk_between rows p waiting (place s) false) (x ∷ rest)) e
    ∙ values_from-refused (walk_between rows p waiting (place s) false) (option_word name ++ (61 ∷ v)) rest k ks
    (fault_of_value name v rows p waiting (place s)
    ∙ ap (λ x. or_else (or_else x (or_else (repeated (option_text name) (rows_with rows p)) [])) []) fault)
doomed_dashed unknown word rest rows p waiting s k ks refuses fault =
    values_from-refused (walk_between rows p waiting (place s) false) word rest kind.UnknownArgument []
    (refuses rows p waiting (place s))

-- at a word without one
doomed_plain : (word : Text) (rest : List Text) (rows : List Row) (p : Option (Text × List Text)) (s : Stage)
    (k : ErrorKind) (ks : Kinds) → IsPlain word → pending_fault rows p ≡ k ∷ ks
    → values_from (walk_between rows p idle (place s) false) (word ∷ rest) ≡ None
doomed_plain word rest rows p none k ks is fault =
    values_from-refused (walk_between rows p idle 1 false) word rest k ks (fault_of_plain mode word rows p is ∙ fault)
doomed_plain word rest rows p (one a) k ks is fault =
    values_from-refused (walk_between rows p idle 2 false) word rest k ks (fault_of_plain first word rows p is ∙ fault)
doomed_plain word rest rows p (two a b) k ks is fault =
    values_from-refused (walk_between rows p idle 3 false) word rest k ks (fault_of_plain second word rows p is ∙ fault)
doomed_plain word rest rows p (three a b c) k ks is fault =
    values_from-refused (walk_between rows p idle 4 false) word rest k ks (fault_of_plain third word rows p is ∙ fault)
doomed_plain word rest rows p (four a b c d) k ks is fault =
    values_from-refused (walk_between rows p idle 5 false) word rest kind.UnknownArgument []
    (fault_of_fifth word rows p is)

-- at any words
doomed : (words : List Text) → AllByRecursion IsUtf8 words → (rows : List Row) (p : Option (Text × List Text))
    (s : Stage) (k : ErrorKind) (ks : Kinds) → pending_fault rows p ≡ k ∷ ks
    → values_from (walk_between rows p idle (place s) false) words ≡ None
doomed [] u rows p s k ks fault = doomed_end rows p idle (place s) false k ks fault
doomed (word ∷ rest) u rows p s k ks fault = ⊎_elim
    (λ (yes : is_dashed word ≡ true).
    doomed_dashed (dashed_word word) word rest rows p idle s k ks (Says-dashed_word word u.0 yes) fault)
    (λ (no : is_dashed word ≡ false). doomed_plain word rest rows p s k ks (IsPlain-of_undashed word no) fault)
    (cases_Bool (is_dashed word))

-- ---- with an option that waits for its value, and without one

-- if no option waits for its value, clap finds in these words what the rules read
abbrev Free : List Text → Type 0
Free words = (rows : List Row) (p : Option (Text × List Text)) (o : OptionValues) (s : Stage)
    → pending_fault rows p ≡ [] → HaveValues (rows_with rows p) o s
    → values_from (walk_between rows p idle (place s) false) words
    ≡ option_and_then up_to_four (read words None (values_at o s))

-- the same if an option waits for its value
abbrev Due : List Text → Type 0
Due words = (name : OptionName) (rows : List Row) (o : OptionValues) (s : Stage) → HaveValues rows o s
    → values_from (walk_between rows (Some (option_text name, [])) (option (option_text name)) (place s) false) words
    ≡ option_and_then up_to_four (read words (Some name) (values_at o s))

-- an option without a row is not repeated
no_repeat : (id : Text) (rows : List Row) → has_row id rows ≡ false → repeated id rows ≡ []
no_repeat id rows h = rw h refl

-- an option with a row is
repeat : (id : Text) (rows : List Row) → has_row id rows ≡ true → repeated id rows ≡ kind.ArgumentConflict ∷ []
repeat id rows h = rw h refl

-- what the rules read after the first value of an option
read_new : (name : OptionName) (v : Text) (rest : List Text) (o : OptionValues) (s : Stage) → o name ≡ None
    → option_and_then up_to_four (read rest None (values_at (with_option name v o) s))
    ≡ option_and_then up_to_four (option_and_then (read rest None) (with_value name v (values_at o s)))
read_new name v rest o s e = ap (λ g. option_and_then up_to_four (option_and_then (read rest None) g))
    (sym (with_value-new name v o (listed s) e))

-- a second value is refused
read_twice : (name : OptionName) (v w : Text) (rest : List Text) (o : OptionValues) (s : Stage) → o name ≡ Some w
    → None ≡ option_and_then up_to_four (option_and_then (read rest None) (with_value name v (values_at o s)))
read_twice name v w rest o s e = ap (λ g. option_and_then up_to_four (option_and_then (read rest None) g))
    (sym (with_value-twice name v w o (listed s) e))

-- `--NAME=V`
value_step : (name : OptionName) (v : Text) (rest : List Text) → Free rest → (rows : List Row)
    (p : Option (Text × List Text)) (o : OptionValues) (s : Stage) → pending_fault rows p ≡ []
    → HaveValues (rows_with rows p) o s
    → values_from (walk_between rows p idle (place s) false) ((option_word name ++ (61 ∷ v)) ∷ rest)
    ≡ option_and_then up_to_four (option_and_then (read rest None) (with_value name v (values_at o s)))
value_step name v rest free rows p o s clear st = by (o name) refl
  where
    by : (given : Option Text) → o name ≡ given
        → values_from (walk_between rows p idle (place s) false) ((option_word name ++ (61 ∷ v)) ∷ rest)
        ≡ option_and_then up_to_four (option_and_then (read rest None) (with_value name v (values_at o s)))
    by None e =
        values_from-taken (walk_between rows p idle (place s) false)
        (walk_between (used (option_text name) v (rows_with rows p)) None idle (place s) false)
        (option_word name ++ (61 ∷ v)) rest
        (fault_of_value name v rows p idle (place s)
        ∙ ap₂ (λ a b. or_else (or_else a (or_else b [])) []) clear
        (no_repeat (option_text name) (rows_with rows p) (not_given (rows_with rows p) o s name st e)))
        (walk_of_value name v rows p (place s))
        ∙ free (used (option_text name) v (rows_with rows p)) None (with_option name v o) s refl
        (option_used name v (rows_with rows p) o s st e)
        ∙ read_new name v rest o s e
    by (Some w) e =
        values_from-refused (walk_between rows p idle (place s) false)
        (option_word name ++ (61 ∷ v)) rest kind.ArgumentConflict []
        (fault_of_value name v rows p idle (place s)
        ∙ ap₂ (λ a b. or_else (or_else a (or_else b [])) []) clear
        (repeat (option_text name) (rows_with rows p) (is_given (rows_with rows p) o s name w st e)))
        ∙ read_twice name v w rest o s e

-- a word with a dash, if no option waits for its value
free_dashed : (d : DashedWord) (word : Text) (rest : List Text) → Free rest → Due rest → Says d word → (rows : List Row)
    (p : Option (Text × List Text)) (o : OptionValues) (s : Stage) → pending_fault rows p ≡ []
    → HaveValues (rows_with rows p) o s
    → values_from (walk_between rows p idle (place s) false) (word ∷ rest)
    ≡ option_and_then up_to_four (after_dashed d rest (read rest) (values_at o s))
free_dashed ending word rest free due e rows p o s clear st =
    ap (λ x. values_from (walk_between rows p idle (place s) false) (x ∷ rest)) e
    ∙ values_from-taken (walk_between rows p idle (place s) false)
    (walk_between rows p idle (place s) true) (codes "--") rest
    (fault_at_end rows p idle (place s)) (walk_at_end rows p idle (place s))
    ∙ behind rest rows p idle o s clear st
free_dashed (bare_option name) word rest free due e rows p o s clear st =
    ap (λ x. values_from (walk_between rows p idle (place s) false) (x ∷ rest)) e
    ∙ values_from-taken (walk_between rows p idle (place s) false)
    (walk_between (rows_with rows p) (Some (option_text name, [])) (option (option_text name)) (place s) false)
    (option_word name) rest
    (fault_of_name name rows p idle (place s) ∙ ap (λ x. or_else x []) clear) (walk_of_name name rows p (place s))
    ∙ due name (rows_with rows p) o s st
free_dashed (option_with_value name v) word rest free due e rows p o s clear st =
    ap (λ x. values_from (walk_between rows p idle (place s) false) (x ∷ rest)) e
    ∙ value_step name v rest free rows p o s clear st
free_dashed unknown word rest free due refuses rows p o s clear st =
    values_from-refused (walk_between rows p idle (place s) false) word rest kind.UnknownArgument []
    (refuses rows p idle (place s))

-- a positional at this place, if no option waits for its value
free_at : (k : Place) (s t : Stage) (word : Text) (rest : List Text) → Follows word k s t → Free rest → IsPlain word
    → (rows : List Row) (p : Option (Text × List Text)) (o : OptionValues) → pending_fault rows p ≡ []
    → HaveValues (rows_with rows p) o s
    → values_from (walk_between rows p idle (positional_number k) false) (word ∷ rest)
    ≡ option_and_then up_to_four (read rest None (values_at o t))
free_at k s t word rest follows free is rows p o clear st =
    values_from-taken (walk_between rows p idle (positional_number k) false)
    (walk_between (rows_with rows p) (Some (positional_name k, word ∷ [])) idle (next_positional k) false)
    word rest (fault_of_plain k word rows p is ∙ clear) (walk_of_plain k word rows p is)
    ∙ ap (λ n. values_from (walk_between (rows_with rows p) (Some (positional_name k, word ∷ [])) idle n false) rest)
    (next_place word k s t follows)
    ∙ free (rows_with rows p) (Some (positional_name k, word ∷ [])) o t
    (no_fault-place k word (rows_with rows p) (free_place word k s t (rows_with rows p) o follows st))
    (place_pending k word (rows_with rows p) o s t follows st)

-- a word without a dash, if no option waits for its value: a positional
free_plain : (word : Text) (rest : List Text) → Free rest → IsPlain word → (rows : List Row)
    (p : Option (Text × List Text)) (o : OptionValues) (s : Stage) → pending_fault rows p ≡ []
    → HaveValues (rows_with rows p) o s
    → values_from (walk_between rows p idle (place s) false) (word ∷ rest)
    ≡ option_and_then up_to_four (read rest None (with_positionals (word ∷ []) (values_at o s)))
free_plain word rest free is rows p o none clear st =
    free_at mode none (one word) word rest at_mode free is rows p o clear st
free_plain word rest free is rows p o (one a) clear st =
    free_at first (one a) (two a word) word rest (at_first a) free is rows p o clear st
free_plain word rest free is rows p o (two a b) clear st =
    free_at second (two a b) (three a b word) word rest (at_second a b) free is rows p o clear st
free_plain word rest free is rows p o (three a b c) clear st =
    free_at third (three a b c) (four a b c word) word rest (at_third a b c) free is rows p o clear st
free_plain word rest free is rows p o (four a b c d) clear st =
    values_from-refused (walk_between rows p idle 5 false) word rest kind.UnknownArgument []
    (fault_of_fifth word rows p is)
    ∙ sym (too_many rest a b c d word None o [])

-- any word, if no option waits for its value
free_step : (word : Text) (rest : List Text) → IsUtf8 word → Free rest → Due rest → Free (word ∷ rest)
free_step word rest u free due rows p o s clear st =
    let dash : Option GivenView = after_dashed (dashed_word word) rest (read rest) (values_at o s) in
    let text : Option GivenView = read rest None (with_positionals (word ∷ []) (values_at o s)) in
    ⊎_elim
    (λ (yes : is_dashed word ≡ true).
    free_dashed (dashed_word word) word rest free due (Says-dashed_word word u yes) rows p o s clear st
    ∙ ap (λ (t : Bool). option_and_then up_to_four (cond t dash text)) (sym yes))
    (λ (no : is_dashed word ≡ false). free_plain word rest free (IsPlain-of_undashed word no) rows p o s clear st
    ∙ ap (λ (t : Bool). option_and_then up_to_four (cond t dash text)) (sym no))
    (cases_Bool (is_dashed word))

-- a word without a dash, if an option waits for its value: the value
due_plain : (name : OptionName) (word : Text) (rest : List Text) → AllByRecursion IsUtf8 rest → Free rest
    → IsPlain word → (rows : List Row) (o : OptionValues) (s : Stage) → HaveValues rows o s
    → values_from (walk_between rows (Some (option_text name, [])) (option (option_text name)) (place s) false)
    (word ∷ rest)
    ≡ option_and_then up_to_four (option_and_then (read rest None) (with_value name word (values_at o s)))
due_plain name word rest us free is rows o s st = by (o name) refl
  where
    by : (given : Option Text) → o name ≡ given
        → values_from (walk_between rows (Some (option_text name, [])) (option (option_text name)) (place s) false)
        (word ∷ rest)
        ≡ option_and_then up_to_four (option_and_then (read rest None) (with_value name word (values_at o s)))
    by None e =
        values_from-taken
        (walk_between rows (Some (option_text name, [])) (option (option_text name)) (place s) false)
        (walk_between rows (Some (option_text name, word ∷ [])) idle (place s) false) word rest
        (fault_of_next name word rows (place s) is) (walk_of_next name word rows (place s) is)
        ∙ free rows (Some (option_text name, word ∷ [])) (with_option name word o) s
        (no_fault-option name word rows (not_given rows o s name st e))
        (option_pending name word rows o s st e)
        ∙ read_new name word rest o s e
    by (Some w) e =
        values_from-taken
        (walk_between rows (Some (option_text name, [])) (option (option_text name)) (place s) false)
        (walk_between rows (Some (option_text name, word ∷ [])) idle (place s) false) word rest
        (fault_of_next name word rows (place s) is) (walk_of_next name word rows (place s) is)
        ∙ doomed rest us rows (Some (option_text name, word ∷ [])) s kind.ArgumentConflict []
        (fault-twice name word rows (is_given rows o s name w st e))
        ∙ read_twice name word w rest o s e

-- any word, if an option waits for its value
due_step : (word : Text) (rest : List Text) → IsUtf8 word → AllByRecursion IsUtf8 rest → Free rest
    → Due (word ∷ rest)
due_step word rest u us free name rows o s st =
    let text : Option GivenView = option_and_then (read rest None) (with_value name word (values_at o s)) in
    ⊎_elim
    (λ (yes : is_dashed word ≡ true).
    doomed_dashed (dashed_word word) word rest rows (Some (option_text name, [])) (option (option_text name)) s
    kind.InvalidValue [] (Says-dashed_word word u yes) (fault-missing name rows)
    ∙ ap (λ (t : Bool). option_and_then up_to_four (cond t None text)) (sym yes))
    (λ (no : is_dashed word ≡ false). due_plain name word rest us free (IsPlain-of_undashed word no) rows o s st
    ∙ ap (λ (t : Bool). option_and_then up_to_four (cond t None text)) (sym no))
    (cases_Bool (is_dashed word))

-- the end of the words
free_end : Free []
free_end rows p o s clear st = values_from-end rows p idle false o s clear st ∙ sym (up_to_four-at o s)

-- the value is missing
due_end : Due []
due_end name rows o s st = doomed_end rows (Some (option_text name, [])) (option (option_text name)) (place s) false
    kind.InvalidValue [] (fault-missing name rows)

-- at any words
steps : (words : List Text) → AllByRecursion IsUtf8 words → Free words × Due words
steps [] u = (free_end, due_end)
steps (word ∷ rest) u = (
  free_step word rest u.0 (steps rest u.1).0 (steps rest u.1).1,
  due_step word rest u.0 u.1 (steps rest u.1).0,
)

-- ---- the whole parse

-- adding no kinds changes nothing
or_else-nil : (a : Kinds) → or_else a [] ≡ a
or_else-nil [] = refl
or_else-nil (k ∷ ks) = refl

-- only the walk and the pending use at its end may fail
walk_and_end : (walk below last defaults check : Kinds) → below ≡ [] → defaults ≡ [] → check ≡ []
    → or_else walk (or_else below (or_else last (or_else defaults check))) ≡ or_else walk last
walk_and_end walk below last defaults check b d k =
    ap₂ (λ x y. or_else walk (or_else x (or_else last y))) b (ap₂ (λ x y. or_else x y) d k)
    ∙ ap (λ x. or_else walk x) (or_else-nil last)

-- the command has no subcommand
none_below : (stop : Option (Text × List Text)) → entered_fault (built cloner_app) stop ≡ []
none_below None = refl
none_below (Some p) = refl

-- the last checks find nothing: no argument is required
none_checked : (rows : List Row) (b : Bool) → check_fault shape rows b ≡ []
none_checked rows true = refl
none_checked rows false = refl

-- the argument has no default value
abbrev HasNoDefault : Rule → Type 0
HasNoDefault a = a.defaults ≡ []

-- such an argument has no default value that fails
no_default_fault : (rows : List Row) (a : Rule) → HasNoDefault a → default_fault rows a ≡ []
no_default_fault rows a h =
    cond-true (has_row a.id rows || is_empty a.defaults) [] _
    (or_right (has_row a.id rows) (is_empty a.defaults) (ap (λ (d : List Text). is_empty d) h))

-- the same for several arguments
no_defaults_fault : (rules : List Rule) (rows : List Row) → AllByRecursion HasNoDefault rules
    → defaults_fault rows rules ≡ []
unfolding defaults_fault
no_defaults_fault [] rows h = refl
no_defaults_fault (a ∷ rest) rows h =
    ap₂ (λ x y. or_else x y) (no_default_fault rows a h.0) (no_defaults_fault rest (with_default rows a) h.1)

-- a choice between the same
same_either_way : (b : Bool) (x y : List Row) → y ≡ x → cond b x y ≡ x
same_either_way true x y e = refl
same_either_way false x y e = e

-- such an argument gets no row at the end
no_default : (rows : List Row) (a : Rule) → HasNoDefault a → with_default rows a ≡ rows
no_default rows a h = same_either_way (has_row a.id rows) rows (default_rows a.id (reading_by a) a.defaults rows)
    (ap (λ (d : List Text). default_rows a.id (reading_by a) d rows) h)

-- the same for several arguments
no_defaults : (rules : List Rule) (rows : List Row) → AllByRecursion HasNoDefault rules
    → fold with_default rows rules ≡ rows
no_defaults [] rows h = refl
no_defaults (a ∷ rest) rows h =
    ap (λ x. fold with_default x rest) (no_default rows a h.0) ∙ no_defaults rest rows h.1

-- no argument of the command has a default value
cloner_has_no_default : AllByRecursion HasNoDefault shape.rules
cloner_has_no_default = (refl, (refl, (refl, (refl, (refl, (refl, (refl, tt)))))))

-- the faults of a whole command line are those of the walk and of its end
fault-start : (words : List Text) → fault_of cloner_app words
    ≡ or_else (walk_fault shape [] (walk_between [] None idle 1 false) words)
    (settle_fault shape.rules false (end_of (walk_between [] None idle 1 false) words))
fault-start words = walk_and_end (walk_fault shape [] (walk_between [] None idle 1 false) words) _
    (settle_fault shape.rules false (end_of (walk_between [] None idle 1 false) words)) _ _
    (none_below _)
    (no_defaults_fault shape.rules (settled shape.rules (end_of (walk_between [] None idle 1 false) words)).rows
    cloner_has_no_default)
    (none_checked (finished shape.rules (end_of (walk_between [] None idle 1 false) words)) _)

-- its rows are those of the walk, settled
rows-start : (words : List Text)
    → matches_of cloner_app words ≡ (settled shape.rules (end_of (walk_between [] None idle 1 false) words)).rows
rows-start words = no_defaults shape.rules (settled shape.rules (end_of (walk_between [] None idle 1 false) words)).rows
    cloner_has_no_default

-- what clap finds in the words is what it finds from the walk's start
clap_values-start : (words : List Text) → clap_values words ≡ values_from (walk_between [] None idle 1 false) words
unfolding clap_values
clap_values-start words =
    ap₂ (λ k r. unless_fault k (Some (values_in r))) (fault-start words) (rows-start words)

-- each of the words is a text
texts : (words : List Text) → list_all is_utf8 words ≡ true → AllByRecursion IsUtf8 words
texts [] h = tt
texts (word ∷ rest) h =
    let parts = and_parts (is_utf8 word) (list_all is_utf8 rest) h in
    (IsUtf8-from_is_utf8 word parts.0, texts rest parts.1)

-- the values that clap finds are those of the rules
pub clap_finds_the_values : ClapFindsTheValues
unfolding values
clap_finds_the_values words h =
    clap_values-start words ∙ (steps words (texts words h)).0 [] None no_options none refl at_start
