use Rattle.std.proofs.Common.{refl}
use Rattle.checkpoint.proofs.examples.bad_pending_messages.Goals as goal

pub returns-clause-alone : goal.returns-clause-alone
returns-clause-alone c = refl

pub returns-clause-completions : goal.returns-clause-completions
returns-clause-completions c = refl
