use Rattle.std.proofs.Common.{◌≡◌, ◌++◌, drop}
use Rattle.std.specs.List.{flat_map}
use Rattle.snapshot_lines.specs.Grammar.{number_word}
use Rattle.snapshot_lines.specs.Spaced.{spaced}
use Rattle.snapshot_lines.proofs.write_words.push_weights.Given as goal

abbrev pub invariant-weights : goal.invariant-weights
invariant-weights l = l.out.items ++ spaced (flat_map number_word.write (drop l.weight-index l.weights))
    ≡ l.fn.out.items ++ spaced (flat_map number_word.write l.weights)
