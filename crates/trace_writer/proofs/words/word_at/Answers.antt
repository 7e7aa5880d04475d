use Rattle.std.proofs.Common.{ap, ◌∙◌, sym}
use Rattle.sim_base.specs.KeyWords.{key_word}
use Rattle.sim_base.specs.declared.message.Key.{Key}
use Rattle.trace_writer.proofs.Searching.{starts_with}
use Rattle.trace_writer.proofs.words.word_at.Goals as goal

pub returns : goal.returns
returns c =
    let next = starts_with c.walk_from.result c.in-Some.key c.in-Some.ensures.value in
    record {
      value = record {
        entry = next.first;
        rest = next.rest;
        is = sym c.walk_from.ensures.value ∙ next.is;
        word_is = c.word.ensures.value ∙ ap (λ (k : Key). key_word 0 k) (sym next.key_is);
      };
    }
