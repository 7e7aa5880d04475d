use Rattle.std.proofs.Common.{refl}
use Rattle.std.specs.Fmt.{digits}
use Rattle.trace_report.proofs.examples.jobs_with_classes.Goals as goal

pub returns-clause-class : goal.returns-clause-class
unfolding digits
returns-clause-class c = refl
