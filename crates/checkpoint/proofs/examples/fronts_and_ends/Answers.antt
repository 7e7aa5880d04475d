use Rattle.std.proofs.Common.{refl}
use Rattle.checkpoint.proofs.examples.fronts_and_ends.Goals as goal

pub returns-clause-horizon : goal.returns-clause-horizon
returns-clause-horizon c = refl

pub returns-clause-end : goal.returns-clause-end
returns-clause-end c = refl

pub returns-clause-late : goal.returns-clause-late
returns-clause-late c = refl

pub returns-clause-past_end : goal.returns-clause-past_end
returns-clause-past_end c = refl

pub returns-clause-end_at_horizon : goal.returns-clause-end_at_horizon
returns-clause-end_at_horizon c = refl
