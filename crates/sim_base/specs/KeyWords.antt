-- Keys as 64-bit words: time, sender, number and place, each in bits of its own.
use Rattle.std.specs.Prelude.{◌≡◌, ◌⊎◌, ◌↔◌, ℕ, ◌+◌, ◌*◌, ◌<◌}
use Rattle.std.specs.declared.cmp.Ordering.TheVariants.{Less, Equal}
use Rattle.sim_base.specs.Order.{key_cmp}
use Rattle.sim_base.specs.declared.message.Key.{Key}
use Rattle.sim_base.specs.declared.message.TheConstants.{WORD_TIMES, WORD_SENDERS, WORD_NUMBERS, WORD_PLACES}

-- a key that fits one word
pub record FitsWord (k : Key) : Type 0 where
  pub time : k.time < WORD_TIMES
  pub sender : k.sender < WORD_SENDERS
  pub number : k.number < WORD_NUMBERS

-- the key as a word, with a place
abbrev pub key_word : ℕ → Key → ℕ
key_word place k = ((k.time * WORD_SENDERS + k.sender) * WORD_NUMBERS + k.number) * WORD_PLACES + place

-- a word is less exactly when its key is less, or the keys are equal and its place is less
abbrev pub WordsAreOrdered : Type 0
WordsAreOrdered = (p q : ℕ) (j k : Key) → FitsWord j → FitsWord k → p < WORD_PLACES → q < WORD_PLACES
    → (key_word p j < key_word q k) ↔ ((key_cmp j k ≡ Less) ⊎ ((key_cmp j k ≡ Equal) × (p < q)))
