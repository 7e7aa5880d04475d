-- The words of parameters and of changes.
use Rattle.std.proofs.Common.{◌≡◌, ℕ, ◌≤◌, refl, ◌++◌, length, codes, decimal, arith}
use Rattle.std.specs.List.{join_with_byte}
use Rattle.sim_base.specs.Params.{param_word, param_values, value_words, words_of_change}
use Rattle.sim_base.specs.declared.message.Param.{Param}
use Rattle.sim_base.specs.declared.message.Param.TheVariants.{Every, Service, Hold, Servers, Room, Weight}
use Rattle.trace_report.specs.declared.lengths.TheConstants.{MAX_WORD_LEN}

-- ---- param_word

-- no word is longer than `service`
pub param_word-short : (p : Param) → length (param_word p) ≤ MAX_WORD_LEN
param_word-short Every = omega arith
param_word-short Service = omega arith
param_word-short Hold = omega arith
param_word-short Servers = omega arith
param_word-short Room = omega arith
param_word-short Weight = omega arith

-- ---- value_words, joined

-- if a parameter takes one value, the text is that value
pub values-one : (p : Param) (a b : ℕ) → param_values p ≡ 1
    → join_with_byte 32 (value_words (param_values p) a b) ≡ decimal a
values-one Every a b h = absurd (omega arith)
values-one Service a b h = absurd (omega arith)
values-one Hold a b h = absurd (omega arith)
values-one Servers a b h = refl
values-one Room a b h = refl
values-one Weight a b h = absurd (omega arith)

-- otherwise it is both, with a space between them
pub values-two : (p : Param) (a b : ℕ) → (param_values p ≡ 1 → ⊥)
    → join_with_byte 32 (value_words (param_values p) a b) ≡ decimal a ++ (codes " " ++ decimal b)
values-two Every a b h = refl
values-two Service a b h = refl
values-two Hold a b h = refl
values-two Servers a b h = absurd (h refl)
values-two Room a b h = absurd (h refl)
values-two Weight a b h = refl

-- ---- words_of_change, joined

-- a change is its parameter's word, and then a space and its values
pub change_in_parts : (p : Param) (a b : ℕ) → join_with_byte 32 (words_of_change p a b)
    ≡ param_word p ++ (codes " " ++ join_with_byte 32 (value_words (param_values p) a b))
change_in_parts Every a b = refl
change_in_parts Service a b = refl
change_in_parts Hold a b = refl
change_in_parts Servers a b = refl
change_in_parts Room a b = refl
change_in_parts Weight a b = refl
