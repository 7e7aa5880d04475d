use Rattle.std.proofs.Common.{◌≡◌, ◌++◌}
use Rattle.snapshot_lines.specs.Forms.{read_as, read_many}
use Rattle.snapshot_lines.specs.Grammar.{job_word}
use Rattle.snapshot_lines.proofs.read_words.read_jobs.Given as goal

abbrev pub invariant-jobs : goal.invariant-jobs
invariant-jobs l = record {
  same : read_many job_word l.count l.fn.words
      ≡ read_as (λ more. l.jobs.items ++ more) (read_many job_word l.left l.rest);
}

abbrev pub decreases-jobs : goal.decreases-jobs
decreases-jobs l = l.left
