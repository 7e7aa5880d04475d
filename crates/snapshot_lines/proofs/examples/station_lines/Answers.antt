use Rattle.std.proofs.Common.{refl}
use Rattle.std.specs.Fmt.{digits}
use Rattle.snapshot_lines.proofs.examples.station_lines.Goals as goal

pub returns-clause-written : goal.returns-clause-written
unfolding digits
returns-clause-written c = refl

pub returns-clause-read : goal.returns-clause-read
unfolding digits
returns-clause-read c = refl

pub returns-clause-job : goal.returns-clause-job
unfolding digits
returns-clause-job c = refl

pub returns-clause-weights : goal.returns-clause-weights
unfolding digits
returns-clause-weights c = refl

pub returns-clause-zero : goal.returns-clause-zero
unfolding digits
returns-clause-zero c = refl

pub returns-clause-spaces : goal.returns-clause-spaces
unfolding digits
returns-clause-spaces c = refl

pub returns-clause-fewer : goal.returns-clause-fewer
unfolding digits
returns-clause-fewer c = refl

pub returns-clause-other : goal.returns-clause-other
unfolding digits
returns-clause-other c = refl
