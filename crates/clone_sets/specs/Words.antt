-- A set in memory: four words, the lowest first.
use Rattle.std.specs.Prelude.{◌≡◌, ℕ, ◌+◌, ◌*◌, ◌/◌, ◌%◌, ◌^◌, ◌<◌, ◌==◌, if◌then◌else◌}
use Rattle.std.proofs.Common.{ap, ◌∙◌}
use Rattle.std.proofs.lemmas.Nat.{shr_high, mod_low}

-- a word below higher ones
unfoldable pub above_word : ℕ → ℕ → ℕ
above_word high low = high * 2 ^ 64 + low

-- the lowest word
unfoldable pub low_word : ℕ → ℕ
low_word s = s % 2 ^ 64

-- the words above the lowest
unfoldable pub high_words : ℕ → ℕ
high_words s = s / 2 ^ 64

-- the set of four words
abbrev pub set_of : ℕ → ℕ → ℕ → ℕ → ℕ
set_of w0 w1 w2 w3 = above_word (above_word (above_word w3 w2) w1) w0

-- each of the four is a word
pub record AreWords (w0 w1 w2 w3 : ℕ) : Type 0 where
  pub word0 : w0 < 2 ^ 64
  pub word1 : w1 < 2 ^ 64
  pub word2 : w2 < 2 ^ 64
  pub word3 : w3 < 2 ^ 64

-- word i of the set with clone c alone
abbrev pub bit_in_word : ℕ → ℕ → ℕ
bit_in_word c i = if c / 64 == i then 2 ^ (c % 64) else 0

-- the lowest word of a word below higher ones
low_above : (h l : ℕ) → l < 2 ^ 64 → low_word (above_word h l) ≡ l
unfolding above_word low_word
low_above h l = mod_low h 64 l

-- and the higher ones
high_above : (h l : ℕ) → l < 2 ^ 64 → high_words (above_word h l) ≡ h
unfolding above_word high_words
high_above h l = shr_high h 64 l

module _ (w0 w1 w2 w3 : ℕ) (h : AreWords w0 w1 w2 w3) where
  -- the four words of the set of four words
  pub record WordsBack : Type 0 where
    pub word0 : low_word (set_of w0 w1 w2 w3) ≡ w0
    pub word1 : low_word (high_words (set_of w0 w1 w2 w3)) ≡ w1
    pub word2 : low_word (high_words (high_words (set_of w0 w1 w2 w3))) ≡ w2
    pub word3 : high_words (high_words (high_words (set_of w0 w1 w2 w3))) ≡ w3

  -- the words of a set are those that it was made from
  pub words_back : WordsBack
  words_back =
      let one = high_above (above_word (above_word w3 w2) w1) w0 h.word0 in
      let two = high_above (above_word w3 w2) w1 h.word1 in record {
        word0 = low_above _ w0 h.word0;
        word1 = ap low_word one ∙ low_above _ w1 h.word1;
        word2 = ap (λ x. low_word (high_words x)) one ∙ ap low_word two ∙ low_above w3 w2 h.word2;
        word3 = ap (λ x. high_words (high_words x)) one ∙ ap high_words two ∙ high_above w3 w2 h.word2;
      }
