use Rattle.std.proofs.Common.{◌≡◌, ◌+◌, ◌++◌, length}
use Rattle.snapshot_lines.specs.Forms.{read_as, read_many}
use Rattle.snapshot_lines.specs.Grammar.{number_word}
use Rattle.snapshot_lines.proofs.read_words.read_weights.Given as goal

abbrev pub invariant-weights : goal.invariant-weights
invariant-weights l = record {
  same : read_many number_word l.links l.fn.words
      ≡ read_as (λ more. l.weights.items ++ more) (read_many number_word l.left l.rest);
  count : length l.weights.items + l.left ≡ l.links;
}

abbrev pub decreases-weights : goal.decreases-weights
decreases-weights l = l.left
