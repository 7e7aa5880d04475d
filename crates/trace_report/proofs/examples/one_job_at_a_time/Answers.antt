use Rattle.std.proofs.Common.{refl}
use Rattle.std.specs.Fmt.{digits}
use Rattle.trace_report.proofs.examples.one_job_at_a_time.Goals as goal

pub returns-clause-trace : goal.returns-clause-trace
unfolding digits
returns-clause-trace c = refl

pub returns-clause-report : goal.returns-clause-report
unfolding digits
returns-clause-report c = refl
