use Rattle.std.proofs.Common.{refl}
use Rattle.std.specs.Fmt.{digits}
use Rattle.snapshot_text.proofs.examples.desk_at_10.Goals as goal

pub returns-clause-written : goal.returns-clause-written
unfolding digits
returns-clause-written c = refl

pub returns-clause-read : goal.returns-clause-read
unfolding digits
returns-clause-read c = refl

pub returns-clause-unfit : goal.returns-clause-unfit
unfolding digits
returns-clause-unfit c = refl

pub returns-clause-front : goal.returns-clause-front
unfolding digits
returns-clause-front c = refl

pub returns-clause-zero : goal.returns-clause-zero
unfolding digits
returns-clause-zero c = refl

pub returns-clause-missing : goal.returns-clause-missing
unfolding digits
returns-clause-missing c = refl

pub returns-clause-unended : goal.returns-clause-unended
unfolding digits
returns-clause-unended c = refl

pub returns-clause-surplus : goal.returns-clause-surplus
unfolding digits
returns-clause-surplus c = refl
