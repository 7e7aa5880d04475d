use Rattle.std.proofs.Common.{refl}
use Rattle.std.specs.Fmt.{digits}
use Rattle.trace_report.proofs.examples.report_of_two_branches.Goals as goal

pub returns : goal.returns
unfolding digits
returns c = refl
