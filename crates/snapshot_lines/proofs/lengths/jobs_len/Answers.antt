use Rattle.std.proofs.Common.{arith}
use Rattle.snapshot_lines.proofs.WaitingLines.{jobs_length-next}
use Rattle.snapshot_lines.proofs.lengths.jobs_len.Goals as goal

pub jobs-preserved : goal.jobs-preserved
jobs-preserved c =
    let next = jobs_length-next c.args.line.now c.jobs.place c.get.result c.get.ensures in
    let one = c.job_len-len.ensures.value in
    let most = c.job_len-len.ensures.at_most in
    let same = c.jobs.invariant.0 in
    let less = c.jobs.invariant.1 in
    (omega (arith, next, one, same), omega (arith, most, less))
