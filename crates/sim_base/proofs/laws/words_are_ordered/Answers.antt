use Rattle.sim_base.proofs.KeyWords.{words-ordered, key_word-lt}
use Rattle.sim_base.proofs.laws.words_are_ordered.Goals as goal

pub returns : goal.returns
returns c = record {
  ordered = λ p q j k a b l m. (words-ordered p q j k a b l m, key_word-lt p q j k a b l m);
}
