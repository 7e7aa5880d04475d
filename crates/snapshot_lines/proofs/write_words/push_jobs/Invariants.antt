use Rattle.std.proofs.Common.{◌≡◌, ◌++◌, drop}
use Rattle.std.specs.List.{flat_map}
use Rattle.snapshot_lines.specs.Grammar.{job_word}
use Rattle.snapshot_lines.specs.Spaced.{spaced}
use Rattle.snapshot_lines.proofs.write_words.push_jobs.Given as goal

abbrev pub invariant-jobs : goal.invariant-jobs
invariant-jobs l = l.out.items ++ spaced (flat_map job_word.write (drop l.place l.line))
    ≡ l.fn.out.items ++ spaced (flat_map job_word.write l.line)
