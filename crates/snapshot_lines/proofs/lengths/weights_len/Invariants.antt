use Rattle.std.proofs.Common.{◌≡◌, ◌+◌, ◌*◌, ◌≤◌, drop, length}
use Rattle.std.specs.List.{flat_map}
use Rattle.snapshot_lines.specs.Grammar.{number_word}
use Rattle.snapshot_lines.specs.Spaced.{spaced}
use Rattle.snapshot_lines.proofs.lengths.weights_len.Given as goal

abbrev pub invariant-weights : goal.invariant-weights
invariant-weights l =
    (l.len + length (spaced (flat_map number_word.write (drop l.weight-index l.weights)))
    ≡ length (spaced (flat_map number_word.write l.weights)))
    × (l.len ≤ l.weight-index * 21)
