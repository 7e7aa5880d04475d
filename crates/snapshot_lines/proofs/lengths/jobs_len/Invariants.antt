use Rattle.std.proofs.Common.{◌≡◌, ◌+◌, ◌*◌, ◌≤◌, drop, length}
use Rattle.std.specs.List.{flat_map}
use Rattle.snapshot_lines.specs.Grammar.{job_word}
use Rattle.snapshot_lines.specs.Spaced.{spaced}
use Rattle.snapshot_lines.proofs.lengths.jobs_len.Given as goal

abbrev pub invariant-jobs : goal.invariant-jobs
invariant-jobs l =
    (l.len + length (spaced (flat_map job_word.write (drop l.place l.line)))
    ≡ length (spaced (flat_map job_word.write l.line)))
    × (l.len ≤ l.place * 63)
