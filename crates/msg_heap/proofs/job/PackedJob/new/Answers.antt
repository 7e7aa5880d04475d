use Rattle.std.proofs.Common.{ap, sym, ◌∙◌, subst}
use Rattle.msg_heap.specs.Jobs.{job_at, IsJob}
use Rattle.msg_heap.proofs.Jobs.{is_job, job_back, word_is}
use Rattle.msg_heap.proofs.job.PackedJob.new.Goals as goal

pub invariant_of-result : goal.invariant_of-result
invariant_of-result c =
    subst IsJob (word_is c.from.result c.args.job c.from.ensures) (is_job c.args.job c.requires.fits)

pub returns : goal.returns
returns c = record {
  value = ap job_at (sym (word_is c.from.result c.args.job c.from.ensures)) ∙ job_back c.args.job c.requires.fits;
}
