-- The kind of a word by the rules, and by clap.
use Rattle.std.proofs.Common.{◌≡◌, ◌⊎◌, inl, inr, ◌∙◌, ◌==◌, ℕ, ◌<◌, ◌≤◌, Bool, true, false, cond, List, []}
use Rattle.std.proofs.Common.{◌∷◌, ◌++◌}
use Rattle.std.proofs.Common.{length, get_or, drop, codes, refl, sym, ap, ap₂, ⊎_elim, nat_eq, eqb-true}
use Rattle.std.proofs.Common.{Some, None, IsUtf8, bytes_eq, slice_get, chars, option_and_then}
use Rattle.std.proofs.Common.{encode_utf8_all}
use Rattle.std.proofs.Common.{true≢false, subst, ◌&&◌, arith}
use Rattle.std.specs.List.{after_first, position_or_len, starts_with}
use Rattle.std.specs.Str.{all_scalars}
use Rattle.std.proofs.lemmas.Bool.{both_ways, cases_Bool, cases_lt, false_from_ne_true}
use Rattle.std.proofs.lemmas.Bool.Decides.{Decides-eqb}
use Rattle.std.proofs.lemmas.List.{take_all}
use Rattle.std.proofs.lemmas.List.Sums.{passes_at_first, split_at_first}
use Rattle.std.proofs.lemmas.Slice.Eq.{bytes_eq-Decides, starts_is}
use Rattle.std.proofs.lemmas.Str.{IsUtf8-past_char, chars-encodes, encode_ascii}
use Rattle.clap.specs.Lexer.{long_of_rest, short_of_rest, strip_byte}
use Rattle.clap.specs.Walk.{Text}
use Rattle.command_words.specs.Rules.{DashedWord, OptionName, bare_option, clone, dashed_word, ending, is_dashed}
use Rattle.command_words.specs.Rules.{option_or, option_text, option_with_value, option_word, unknown, until, workers}
use Rattle.command_words.proofs.ClapSteps.{IsPlain, IsRefused, long_name, refused_long, refused_short}

-- ---- words that do not begin with `-`, and `-` itself

-- a word of one byte has no `--`
one_byte_long : (t : Bool) → option_and_then long_of_rest (option_and_then (strip_byte 45) (cond t (Some []) None))
    ≡ None
one_byte_long true = refl
one_byte_long false = refl

-- nor a short flag after a dash
one_byte_short : (t : Bool) → option_and_then short_of_rest (cond t (Some []) None) ≡ None
one_byte_short true = refl
one_byte_short false = refl

-- nor is it `--`
one_byte_end : (t : Bool) → (t && false) ≡ false
one_byte_end true = refl
one_byte_end false = refl

-- clap does not take such words for a flag
pub IsPlain-of_undashed : (word : Text) → is_dashed word ≡ false → IsPlain word
IsPlain-of_undashed [] h = record { no_end = refl; no_long = refl; no_short = refl }
IsPlain-of_undashed (b ∷ []) h = record {
  no_end = one_byte_end (b == 45);
  no_long = one_byte_long (b == 45);
  no_short = one_byte_short (b == 45);
}
IsPlain-of_undashed (b ∷ c ∷ rest) h = record { no_end = rw h refl; no_long = rw h refl; no_short = rw h refl }

-- ---- the name in `--NAME` and `--NAME=V`

-- 61 is `=`
abbrev is_equals : ℕ → Bool
is_equals x = x == 61

-- a word with this name is the name, or continues with `=`
names : (text name : Text) → long_name text ≡ name → (text ≡ name) ⊎ (text ≡ name ++ (61 ∷ after_first is_equals text))
names text name e = ⊎_elim
    (λ (lt : position_or_len is_equals text < length text). inr (split_at_first is_equals text 0 lt
    ∙ ap₂ (λ a x. a ++ (x ∷ after_first is_equals text)) e
    (eqb-true (get_or text (position_or_len is_equals text) 0) 61 (passes_at_first is_equals text 0 lt))))
    (λ (ge : length text ≤ position_or_len is_equals text).
    inl (sym (take_all (position_or_len is_equals text) text ge) ∙ e))
    (cases_lt (position_or_len is_equals text) (length text))

-- `--NAME=V` begins with `--NAME=`
starts : (name : OptionName) (word v : Text) → word ≡ option_word name ++ (61 ∷ v)
    → starts_with nat_eq word (option_word name ++ (61 ∷ [])) ≡ true
starts workers word v e = (starts_is Decides-eqb word (codes "--workers=") _ refl).1 v e
starts clone word v e = (starts_is Decides-eqb word (codes "--clone=") _ refl).1 v e
starts until word v e = (starts_is Decides-eqb word (codes "--until=") _ refl).1 v e

-- a word that begins with `--NAME=` is `--NAME=V`
starts_back : (name : OptionName) (word : Text) → starts_with nat_eq word (option_word name ++ (61 ∷ [])) ≡ true
    → word ≡ option_word name ++ (61 ∷ drop (length (option_word name ++ (61 ∷ []))) word)
starts_back workers word e = (starts_is Decides-eqb word (codes "--workers=") _ refl).0 e
starts_back clone word e = (starts_is Decides-eqb word (codes "--clone=") _ refl).0 e
starts_back until word e = (starts_is Decides-eqb word (codes "--until=") _ refl).0 e

-- ---- the kind of a word with a dash

-- a word that is neither has another name
other_name : (name : OptionName) (text : Text) → bytes_eq (45 ∷ 45 ∷ text) (option_word name) ≡ false
    → starts_with nat_eq (45 ∷ 45 ∷ text) (option_word name ++ (61 ∷ [])) ≡ false
    → bytes_eq (option_text name) (long_name text) ≡ false
other_name name text no_name no_value = false_from_ne_true (bytes_eq (option_text name) (long_name text)) (λ h.
    ⊎_elim
    (λ (e : text ≡ option_text name). both_ways (bytes_eq (45 ∷ 45 ∷ text) (option_word name)) no_name
    ((bytes_eq-Decides (45 ∷ 45 ∷ text) (option_word name)).1 (ap (λ t. 45 ∷ 45 ∷ t) e)))
    (λ (e : text ≡ option_text name ++ (61 ∷ after_first is_equals text)).
    both_ways (starts_with nat_eq (45 ∷ 45 ∷ text) (option_word name ++ (61 ∷ []))) no_value
    (starts name (45 ∷ 45 ∷ text) (after_first is_equals text) (ap (λ t. 45 ∷ 45 ∷ t) e)))
    (names text (option_text name) (sym ((bytes_eq-Decides (option_text name) (long_name text)).0 h))))

-- a text that is not empty begins with a character
begins : (x : ℕ) (text : Text) → IsUtf8 (x ∷ text) → (c : ℕ) × (slice_get (chars (x ∷ text)) 0 ≡ Some c)
begins x text u = by u.0 u.1.0 u.1.1
  where
    by : (cs : List ℕ) → all_scalars cs ≡ true → encode_utf8_all cs ≡ x ∷ text
        → (c : ℕ) × (slice_get (chars (x ∷ text)) 0 ≡ Some c)
    by [] s e = absurd cc
    by (c ∷ cs) s e = (c, ap (λ t. slice_get t 0) (ap chars (sym e) ∙ chars-encodes (c ∷ cs) s))

-- the word has none of the known forms
record IsOther (word : Text) : Type 0 where
  no_end : bytes_eq word (codes "--") ≡ false
  no_name : (name : OptionName) → bytes_eq word (option_word name) ≡ false
  no_value : (name : OptionName) → starts_with nat_eq word (option_word name ++ (61 ∷ [])) ≡ false

-- clap refuses such a word
refused : (word : Text) → IsUtf8 word → is_dashed word ≡ true → IsOther word → IsRefused word
refused [] u h o = absurd cc
refused (b ∷ []) u h o = absurd cc
refused (b ∷ c ∷ text) u h o = dashes b c text (eqb-true b 45 h) u o
  where
    two_dashes : (text : Text) → IsOther (45 ∷ 45 ∷ text) → IsRefused (45 ∷ 45 ∷ text)
    two_dashes [] o = absurd (true≢false o.no_end)
    two_dashes (x ∷ text) o =
        refused_long x text (λ name. other_name name (x ∷ text) (o.no_name name) (o.no_value name))

    second : (c : ℕ) (text : Text) → (c ≡ 45) ⊎ ((c == 45) ≡ false) → IsUtf8 (45 ∷ c ∷ text) → IsOther (45 ∷ c ∷ text)
        → IsRefused (45 ∷ c ∷ text)
    second c text (inl e) u o = subst (λ x. IsRefused (45 ∷ x ∷ text)) (sym e)
        (two_dashes text (subst (λ x. IsOther (45 ∷ x ∷ text)) e o))
    second c text (inr e) u o =
        let first = begins c text (IsUtf8-past_char (45 ∷ c ∷ text) (c ∷ text) 45 u
        (ap (λ t. t ++ (c ∷ text)) (sym (encode_ascii 45 (omega arith))))) in
        refused_short c first.0 text e first.1

    is_dash : (c : ℕ) → (c ≡ 45) ⊎ ((c == 45) ≡ false)
    is_dash c = ⊎_elim (λ (t : (c == 45) ≡ true). inl (eqb-true c 45 t)) (λ (f : (c == 45) ≡ false). inr f)
        (cases_Bool (c == 45))

    dashes : (b c : ℕ) (text : Text) → b ≡ 45 → IsUtf8 (b ∷ c ∷ text) → IsOther (b ∷ c ∷ text)
        → IsRefused (b ∷ c ∷ text)
    dashes b c text e u o = subst (λ x. IsRefused (x ∷ c ∷ text)) (sym e)
        (second c text (is_dash c) (subst (λ x. IsUtf8 (x ∷ c ∷ text)) e u) (subst (λ x. IsOther (x ∷ c ∷ text)) e o))

-- clap's reading of the word
abbrev pub Says : DashedWord → Text → Type 0
Says ending word = word ≡ codes "--"
Says (bare_option name) word = word ≡ option_word name
Says (option_with_value name v) word = word ≡ option_word name ++ (61 ∷ v)
Says unknown word = IsRefused word

-- what holds of each option
each_option : (P : OptionName → Type 0) → P workers → P clone → P until → (name : OptionName) → P name
each_option P w c u workers = w
each_option P w c u clone = c
each_option P w c u until = u

-- a word that may name an option has the same kind by the rules and by clap
Says-option_or : (name : OptionName) (word : Text) (other : DashedWord)
    → (bytes_eq word (option_word name) ≡ false → starts_with nat_eq word (option_word name ++ (61 ∷ [])) ≡ false
    → Says other word) → Says (option_or name word other) word
Says-option_or name word other next = at_name (bytes_eq word (option_word name)) refl
  where
    at_value : (t : Bool) → bytes_eq word (option_word name) ≡ false
        → starts_with nat_eq word (option_word name ++ (61 ∷ [])) ≡ t
        → Says (cond t (option_with_value name (drop (length (option_word name ++ (61 ∷ []))) word)) other) word
    at_value true a b = starts_back name word b
    at_value false a b = next a b

    at_name : (t : Bool) → bytes_eq word (option_word name) ≡ t
        → Says (cond t (bare_option name) (cond (starts_with nat_eq word (option_word name ++ (61 ∷ [])))
        (option_with_value name (drop (length (option_word name ++ (61 ∷ []))) word)) other)) word
    at_name true a = (bytes_eq-Decides word (option_word name)).0 a
    at_name false a = at_value (starts_with nat_eq word (option_word name ++ (61 ∷ []))) a refl

-- a word with a dash has the same kind by the rules and by clap
pub Says-dashed_word : (word : Text) → IsUtf8 word → is_dashed word ≡ true → Says (dashed_word word) word
Says-dashed_word word u h = at_end (bytes_eq word (codes "--")) refl
  where
    at_end : (t : Bool) → bytes_eq word (codes "--") ≡ t
        → Says (cond t ending (option_or workers word (option_or clone word (option_or until word unknown)))) word
    at_end true a = (bytes_eq-Decides word (codes "--")).0 a
    at_end false a =
        Says-option_or workers word (option_or clone word (option_or until word unknown)) (λ w wv.
        Says-option_or clone word (option_or until word unknown) (λ c cv.
        Says-option_or until word unknown (λ t tv. refused word u h (record {
          no_end = a;
          no_name = each_option (λ name. bytes_eq word (option_word name) ≡ false) w c t;
          no_value = each_option (λ name. starts_with nat_eq word (option_word name ++ (61 ∷ [])) ≡ false) wv cv tv;
        }))))
