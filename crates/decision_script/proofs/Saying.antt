-- The words of an act mean that act.
use Rattle.std.proofs.Common.{◌≡◌, ℕ, ◌&&◌, true, nat_lt, List, [], ◌∷◌, length, refl, arith, Ok}
use Rattle.std.specs.List.{list_all, AllByRecursion}
use Rattle.std.proofs.lemmas.Bool.{and_parts}
use Rattle.std.proofs.lemmas.Bool.Decides.{nat_tests}
use Rattle.sim_base.specs.Names.{is_lower, is_name_byte}
use Rattle.sim_base.specs.Params.{words_of_change}
use Rattle.sim_base.specs.declared.name.TheConstants.{MAX_NAME_LEN}
use Rattle.sim_base.specs.declared.decision.Decision.TheVariants.{Fork, Set, End}
use Rattle.sim_base.specs.declared.message.Param.{Param}
use Rattle.sim_base.specs.declared.message.Param.TheVariants.{Every, Service, Hold, Servers, Room, Weight}
use Rattle.sim_base.proofs.ListLaws.{list_all-weaker}
use Rattle.decision_script.specs.declared.item.Act.{Act}
use Rattle.decision_script.specs.declared.item.Act.TheVariants.{Decide, Look}
use Rattle.decision_script.specs.declared.line.ParsedLine.TheVariants.{Action, Section}
use Rattle.decision_script.specs.Sentences.{saying, section, look, fork, end, set, one_value, two_values}
use Rattle.decision_script.specs.Stating.{Fits32, IsName, IsChange, IsAct}
use Rattle.decision_script.specs.Printing.{words_of_act, words_of_section}
use Rattle.decision_script.proofs.Numbers.{word_number-decimal, decimal_is_word}
use Rattle.decision_script.proofs.JoinedWords.{is_letter, IsWord}

-- ---- saying

-- the words of a section line say the section of that name
pub saying-section : (name : List ℕ) → IsName name → saying (words_of_section name) ≡ Ok (Section name)
unfolding section
saying-section name h = rw h refl

-- the words of a fork say that fork
saying-fork : (new old : List ℕ) → IsName new → IsName old
    → saying (words_of_act (Decide (Fork new old))) ≡ Ok (Action (Decide (Fork new old)))
unfolding fork
saying-fork new old n o = rw (n, o) refl

-- of a look that look
saying-look : (who station : List ℕ) → IsName who → IsName station
    → saying (words_of_act (Look who station)) ≡ Ok (Action (Look who station))
unfolding look
saying-look who station w s = rw (w, s) refl

-- of an end that end
saying-end : (who : List ℕ) (at : ℕ) → IsName who → Fits32 at
    → saying (words_of_act (Decide (End who at))) ≡ Ok (Action (Decide (End who at)))
unfolding end
saying-end who at w h = rw (w, word_number-decimal at h) refl

-- and of a set that set
saying-set : (who station : List ℕ) (at a b : ℕ) (param : Param) → IsName who → Fits32 at → IsName station
    → IsChange param a b
    → saying (words_of_act (Decide (Set who at station (record { param = param; a = a; b = b }))))
    ≡ Ok (Action (Decide (Set who at station (record { param = param; a = a; b = b }))))
unfolding set one_value two_values
saying-set who station at a b Every w t s c =
    rw (w, s, word_number-decimal at t, word_number-decimal a c.0, word_number-decimal b c.1) refl
saying-set who station at a b Service w t s c =
    rw (w, s, word_number-decimal at t, word_number-decimal a c.0, word_number-decimal b c.1) refl
saying-set who station at a b Hold w t s c =
    rw (w, s, word_number-decimal at t, word_number-decimal a c.0, word_number-decimal b c.1) refl
saying-set who station at a b Servers w t s c = rw (w, s, word_number-decimal at t, word_number-decimal a c.0, c.1) refl
saying-set who station at a b Room w t s c = rw (w, s, word_number-decimal at t, word_number-decimal a c.0, c.1) refl
saying-set who station at a b Weight w t s c =
    rw (w, s, word_number-decimal at t, word_number-decimal a c.0, word_number-decimal b c.1) refl

-- the words of an act say that act
pub saying-act : (act : Act) → IsAct act → saying (words_of_act act) ≡ Ok (Action act)
saying-act (Look who station) h = saying-look who station h.0 h.1
saying-act (Decide (Fork new old)) h = saying-fork new old h.0 h.1
saying-act (Decide (Set who at station change)) h =
    saying-set who station at change.a change.b change.param h.0 h.1 h.2 h.3
saying-act (Decide (End who at)) h = saying-end who at h.0 h.1

-- ---- IsWord

-- a byte of a name is a letter
name_byte_is_letter : (b : ℕ) → is_name_byte b ≡ true → is_letter b ≡ true
name_byte_is_letter b h = grind (arith, nat_tests)

-- a name is a word
name_is_word : (name : List ℕ) → IsName name → IsWord name
name_is_word [] h = absurd (cc)
name_is_word (b ∷ bs) h =
    let (named, short) = and_parts (is_lower b && list_all is_name_byte bs) (nat_lt (length bs) MAX_NAME_LEN) h in
    let (lower, rest) = and_parts (is_lower b) (list_all is_name_byte bs) named in
    let letter : is_letter b ≡ true = grind (arith, nat_tests) in
    record {
      nonempty = grind (arith, nat_tests);
      letters = rw (letter, list_all-weaker is_name_byte is_letter name_byte_is_letter bs rest) refl;
      length_max = grind (arith, nat_tests);
    }

-- the text of a change consists of words
change_words : (param : Param) (a b : ℕ) → IsChange param a b → AllByRecursion IsWord (words_of_change param a b)
change_words Every a b h = (
  record { nonempty = refl; letters = refl; length_max = refl },
  (decimal_is_word a (omega arith), (decimal_is_word b (omega arith), tt)),
)
change_words Service a b h = (
  record { nonempty = refl; letters = refl; length_max = refl },
  (decimal_is_word a (omega arith), (decimal_is_word b (omega arith), tt)),
)
change_words Hold a b h = (
  record { nonempty = refl; letters = refl; length_max = refl },
  (decimal_is_word a (omega arith), (decimal_is_word b (omega arith), tt)),
)
change_words Servers a b h = (
  record { nonempty = refl; letters = refl; length_max = refl },
  (decimal_is_word a (omega arith), tt),
)
change_words Room a b h = (
  record { nonempty = refl; letters = refl; length_max = refl },
  (decimal_is_word a (omega arith), tt),
)
change_words Weight a b h = (
  record { nonempty = refl; letters = refl; length_max = refl },
  (decimal_is_word a (omega arith), (decimal_is_word b (omega arith), tt)),
)

-- so does the text of an act
pub act_words : (act : Act) → IsAct act → AllByRecursion IsWord (words_of_act act)
act_words (Look who station) h = (
  record { nonempty = refl; letters = refl; length_max = refl },
  (name_is_word who h.0, (name_is_word station h.1, tt)),
)
act_words (Decide (Fork new old)) h = (
  record { nonempty = refl; letters = refl; length_max = refl },
  (name_is_word new h.0, (record { nonempty = refl; letters = refl; length_max = refl }, (name_is_word old h.1, tt))),
)
act_words (Decide (Set who at station change)) h = (
  record { nonempty = refl; letters = refl; length_max = refl },
  (
    name_is_word who h.0,
    (
      record { nonempty = refl; letters = refl; length_max = refl },
      (decimal_is_word at (omega arith), (name_is_word station h.2, change_words change.param change.a change.b h.3)),
    ),
  ),
)
act_words (Decide (End who at)) h = (
  record { nonempty = refl; letters = refl; length_max = refl },
  (
    name_is_word who h.0,
    (
      record { nonempty = refl; letters = refl; length_max = refl },
      (decimal_is_word at (omega arith), tt),
    ),
  ),
)

-- and of a section
pub section_words : (name : List ℕ) → IsName name → AllByRecursion IsWord (words_of_section name)
section_words name h = (record { nonempty = refl; letters = refl; length_max = refl }, (name_is_word name h, tt))
