use Rattle.std.proofs.Common.{rules, ◌≡◌, ◌++◌, ◌∷◌, [], ◌-◌, ◌<◌, Some, sym, ap, ◌∙◌}
use Rattle.snapshot_lines.specs.Forms.{read_as, read_many}
use Rattle.snapshot_lines.specs.Grammar.{job_word}
use Rattle.snapshot_lines.proofs.ReadingMany.{one_more}
use Rattle.snapshot_lines.proofs.read_words.read_jobs.Goals as goal

pub jobs-preserved : goal.jobs-preserved
jobs-preserved c =
    let read : job_word.read c.jobs.rest ≡ Some (c.in-Some.job, c.in-Some.more) = search rules in
    let items : c.push_job.new.jobs.items ≡ c.jobs.jobs.items ++ c.in-Some.job ∷ [] = search rules in
    let some : 0 < c.jobs.left = search rules in
    record {
      same = c.jobs.invariant.same
          ∙ one_more job_word c.jobs.jobs.items c.jobs.left c.jobs.rest c.in-Some.more c.in-Some.job some read
          ∙ ap (λ l. read_as (λ more. l ++ more) (read_many job_word (c.jobs.left - 1) c.in-Some.more)) (sym items);
    }
